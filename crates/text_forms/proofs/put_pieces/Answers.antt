-- One byte of the form a turn: with the text of those that are left, the whole is put. Assumes nothing.
use Rattle.text.proofs.Puts.{rest_room, rest_put, rest_ended}
use Rattle.text_forms.proofs.Forms.{form_more, form_end}
use Rattle.text_forms.proofs.put_pieces.Goals as goal

pub put_piece-next-requires : goal.put_piece-next-requires
put_piece-next-requires c = rest_room c.loop-b.invariant _ _ (form_more c.args.form.now c.loop-b.left.now c.loop-b.b-index c.loop-b-test.true)

pub loop-b-preserved : goal.loop-b-preserved
loop-b-preserved c =
    rw c.left_of-left.ensures
    (rest_put c.loop-b.invariant _ _ (form_more c.args.form.now c.loop-b.left.now c.loop-b.b-index c.loop-b-test.true)
    c.put_piece-next.auto.out c.put_piece-next.ensures)

pub returns : goal.returns
returns c = rest_ended c.loop-b.invariant (form_end c.args.form.now c.loop-b.left.now c.loop-b.b-index c.loop-b-test.false)
