-- The byte itself, nothing, or a number's digits. Assumes nothing.
use mathlib.Core.Path.{sym, ◌∙◌}
use mathlib.Core.List.{append-nil}
use Rattle.text.specs.Decimal.{decimal}
use Rattle.text.proofs.Puts.{put_none, put_as, answer_as}
use Rattle.text_forms.proofs.Forms.{piece_byte, piece_number, piece_none}
use Rattle.text_forms.proofs.put_piece.Goals as goal

pub returns-then-b-ne35 : goal.returns-then-b-ne35
returns-then-b-ne35 c =
    answer_as (piece_byte c.args.b c.args.numbers.now c.if-b-ne35.true) c.requires (c.put_word.ensures.out_after, c.put_word.ensures.value)

pub returns-in-Some : goal.returns-in-Some
returns-in-Some c =
    answer_as (piece_number _ _ _ c.if-b-ne35.false (sym c.in-Some.ensures.value) ∙ sym (append-nil (decimal _))) c.requires
    (c.put_numbered.ensures.out_after, c.put_numbered.ensures.value)

pub returns-in-None : goal.returns-in-None
returns-in-None c = put_as (sym (piece_none _ _ c.if-b-ne35.false (sym c.in-None.ensures.value))) (put_none c.args.out.now c.args.at)
