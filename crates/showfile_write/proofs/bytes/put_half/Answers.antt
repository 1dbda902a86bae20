-- `put_half` writes two bytes. Assumes nothing.
use mathlib.Core.Path.{refl}
use Rattle.showfile.specs.Bytes.{half_bytes}
use Rattle.showfile.proofs.ByteLaws.{part_over}
use Rattle.showfile_write.proofs.bytes.put_half.Goals as goal

pub returns : goal.returns
unfolding half_bytes
returns c =
    rw (c.copy_from_slice.ensures.after, c.to_le_bytes.ensures) (part_over c.args.b.now 0 _ (half_bytes c.args.v) refl)
