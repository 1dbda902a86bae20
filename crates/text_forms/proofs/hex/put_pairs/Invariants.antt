-- One byte a turn: with the text of those that are left, the whole is put. Assumes nothing.
use lib.ListN.{drop}
use Rattle.text.proofs.Puts.{Rest}
use Rattle.text_forms.specs.Hex.{pairs_text}
use Rattle.text_forms.proofs.hex.put_pairs.Given as goal

abbrev pub invariant-loop-b : goal.invariant-loop-b
invariant-loop-b l = Rest l.fn.out l.at (pairs_text l.bytes) l.out l.next (pairs_text (drop l.b-index l.bytes))
