-- There is one report. Assumes nothing.
use mathlib.Core.Path.{◌≡◌}
use mathlib.Core.List.{List}
use Prim.Native.Nat.{ℕ}
use Rattle.showfile.specs.declared.Written.{Written}
use Rattle.text.proofs.Told.{told_once}
use Rattle.report.specs.Answers.{TextIs, ReportIs, text_most}
use Rattle.report.proofs.Texts.{text_once}

-- Two reports that meet the statement are equal, in what they answer and in every byte.
pub report_once :
    (f b : List ℕ) (r s : Written) (x y : List ℕ) → ReportIs f b r x → ReportIs f b s y → (r ≡ s) × (x ≡ y)
report_once f = told_once (TextIs f) text_most (text_once f)
