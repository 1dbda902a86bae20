-- `put_four` writes four words, one after the other. Assumes nothing.
use Rattle.showfile_write.proofs.ByteLaws.{rest_over, four_words}
use Rattle.showfile_write.proofs.bytes.put_four.Goals as goal

pub returns : goal.returns
returns c =
    four_words c.args.b.now 0 _ _ _ _ c.requires c.put_word.ensures (rest_over _ 4 _ c.put_word-2.ensures) (rest_over _ 8 _ c.put_word-3.ensures)
    (rest_over _ 12 _ c.put_word-4.ensures)
