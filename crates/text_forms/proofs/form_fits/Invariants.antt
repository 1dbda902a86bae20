-- The text that is left fits in the room that is left where all of it fits from `at` on. Assumes nothing.
use mathlib.Core.Path.{◌≡◌}
use Prim.Native.Nat.{◌+◌}
use lib.ListN.{length, drop}
use Rattle.text_forms.specs.Forms.{form_text}
use Rattle.text_forms.proofs.form_fits.Given as goal

abbrev pub invariant-loop-b : goal.invariant-loop-b
invariant-loop-b l = l.at + length (form_text l.form l.numbers) + l.room ≡ l.len + length (form_text (drop l.b-index l.form) l.left)
