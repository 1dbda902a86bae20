-- `write` writes what its test lets pass. Assumes nothing.
use mathlib.Core.Path.{refl, sym, ◌∙◌}
use native.Mathlib.Omega.{arith}
use Rattle.show.proofs.Lists.{unmapped}
use Rattle.showfile_write.proofs.Filed.{filed_refused, filed_within}
use Rattle.showfile_write.proofs.Passed.{check_writable}
use Rattle.showfile_write.proofs.Sizes.{shown_length}
use borrow.Author.Rules.{rules}
use Rattle.showfile_write.proofs.write.Goals as goal

pub put_file-requires : goal.put_file-requires
put_file-requires c =
    let w = check_writable _ _ _ (sym c.check_write.ensures ∙ c.in-Ok.is) in
    let size = shown_length c.args.show c.args.note.now (search (unmapped, rules)) (search (unmapped, rules)) w.within.counts in
    record { counts = w.within.counts; fits = let f = w.fits in omega arith }

pub returns-in-Ok : goal.returns-in-Ok
returns-in-Ok c =
    let pair = filed_within _ _ _ (sym c.check_write.ensures ∙ c.in-Ok.is) c.put_file.ensures.value c.put_file.ensures.buffer_after in
    record { value = pair.0; buffer_after = pair.1 }

pub returns-in-Err : goal.returns-in-Err
returns-in-Err c =
    let pair = filed_refused _ _ _ refl (sym c.check_write.ensures ∙ c.in-Err.is) in record { value = pair.0; buffer_after = pair.1 }
