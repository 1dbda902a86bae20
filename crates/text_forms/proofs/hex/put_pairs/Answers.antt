-- One byte a turn: with the text of those that are left, the whole is put. Assumes nothing.
use Rattle.text.proofs.Puts.{rest_room, rest_put, rest_ended}
use Rattle.text_forms.proofs.Pairs.{pairs_more, pairs_end}
use Rattle.text_forms.proofs.hex.put_pairs.Goals as goal

pub put_pair-next-requires : goal.put_pair-next-requires
put_pair-next-requires c = rest_room c.loop-b.invariant _ _ (pairs_more c.args.bytes.now c.loop-b.b-index c.loop-b-test.true)

pub loop-b-preserved : goal.loop-b-preserved
loop-b-preserved c =
    rest_put c.loop-b.invariant _ _ (pairs_more c.args.bytes.now c.loop-b.b-index c.loop-b-test.true) c.put_pair-next.auto.out c.put_pair-next.ensures

pub returns : goal.returns
returns c = rest_ended c.loop-b.invariant (pairs_end c.args.bytes.now c.loop-b.b-index c.loop-b-test.false)
