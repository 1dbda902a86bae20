-- `put_trailer` writes twenty bytes. Assumes nothing.
use native.Mathlib.Omega.{arith}
use Rattle.showfile.specs.Bytes.{word_bytes, half_bytes}
use Rattle.showfile.specs.File.{trailer_bytes}
use Rattle.showfile.proofs.ByteLaws.{over_then}
use Rattle.showfile_write.proofs.ByteLaws.{rest_over}
use Rattle.showfile_write.proofs.trailer.put_trailer.Goals as goal

pub returns : goal.returns
unfolding trailer_bytes word_bytes half_bytes
returns c =
    let b = c.args.b.now in
    over_then b 0 _ 16 _
    (over_then b 0 _ 12 _
    (over_then b 0 _ 10 _
    (over_then b 0 _ 8 _
    (over_then b 0 _ 4 _ c.put_word.ensures (rest_over _ 4 _ c.put_word-2.ensures) (omega arith) (omega arith))
    (rest_over _ 8 _ c.put_half.ensures) (omega arith) (omega arith))
    (rest_over _ 10 _ c.put_half-2.ensures) (omega arith) (omega arith))
    (rest_over _ 12 _ c.put_word-3.ensures) (omega arith) (omega arith))
    (rest_over _ 16 _ c.put_word-4.ensures) (omega arith) (omega arith)
