-- There is one explanation. Assumes nothing.
use mathlib.Core.Path.{◌≡◌}
use mathlib.Core.List.{List}
use Prim.Native.Nat.{ℕ}
use Rattle.showfile.specs.declared.Written.{Written}
use Rattle.text.proofs.Told.{told_once}
use Rattle.explain.specs.Answers.{SaidIs, ExplainIs, said_most}
use Rattle.explain.proofs.Texts.{said_once}

-- Two explanations that meet the statement are equal, in what they answer and in every byte.
pub explain_once :
    (f b : List ℕ) (r s : Written) (x y : List ℕ) → ExplainIs f b r x → ExplainIs f b s y → (r ≡ s) × (x ≡ y)
explain_once f = told_once (SaidIs f) said_most (said_once f)
