-- One byte of the form a turn: with the text of those that are left, the whole is put. Assumes nothing.
use lib.ListN.{drop}
use Rattle.text.proofs.Puts.{Rest}
use Rattle.text_forms.specs.Forms.{form_text}
use Rattle.text_forms.proofs.put_pieces.Given as goal

abbrev pub invariant-loop-b : goal.invariant-loop-b
invariant-loop-b l = Rest l.fn.out l.at (form_text l.form l.numbers) l.out l.next (form_text (drop l.b-index l.form) l.left)
