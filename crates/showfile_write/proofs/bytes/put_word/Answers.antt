-- `put_word` writes four bytes. Assumes nothing.
use mathlib.Core.Path.{refl}
use Rattle.showfile.specs.Bytes.{word_bytes}
use Rattle.showfile.proofs.ByteLaws.{part_over}
use Rattle.showfile_write.proofs.bytes.put_word.Goals as goal

pub returns : goal.returns
unfolding word_bytes
returns c =
    rw (c.copy_from_slice.ensures.after, c.to_le_bytes.ensures) (part_over c.args.b.now 0 _ (word_bytes c.args.v) refl)
