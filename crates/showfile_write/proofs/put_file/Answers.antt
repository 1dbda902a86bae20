-- `put_file` writes the four parts, one after the other. Assumes nothing.
use Prim.Native.Nat.{◌≤◌}
use mathlib.Core.Path.{◌≡◌, refl}
use native.Mathlib.Omega.{arith}
use lib.ListN.{length}
use Rattle.show.proofs.Lists.{unmapped}
use Rattle.showfile.proofs.ByteLaws.{part_over}
use Rattle.showfile_write.proofs.ByteLaws.{rest_over}
use Rattle.showfile_write.proofs.Sizes.{shown_length}
use Rattle.showfile_write.proofs.Filed.{file_filed}
use borrow.Author.Rules.{rules}
use Rattle.showfile_write.proofs.put_file.Goals as goal

pub returns : goal.returns
returns c =
    let eight : length c.args.show.now.layouts ≡ 8 = search (unmapped, rules) in
    let sixteen : length c.args.show.now.sessions ≡ 16 = search (unmapped, rules) in
    let counts = c.requires.counts in
    let laid : c.args.show.now.laid ≤ length c.args.show.now.layouts = omega arith in
    let playing : c.args.show.now.playing ≤ length c.args.show.now.sessions = omega arith in
    let size = shown_length c.args.show.now c.args.note.now eight sixteen counts in
    record {
      value = omega arith;
      buffer_after = file_filed _ _ _ laid playing (omega arith) (rw c.copy_from_slice.ensures.after (part_over _ 0 _ c.args.note.now refl))
          (rest_over _ _ _ c.put_rows.ensures) (rest_over _ _ _ c.put_rows-2.ensures)
          (rest_over _ _ _ (rw (← c.trailer_of.ensures) c.put_trailer.ensures));
    }
