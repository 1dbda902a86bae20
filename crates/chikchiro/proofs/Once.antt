-- Each call has one answer, and leaves one state of the slices. Assumes nothing.
use Rattle.std.specs.Prelude.{Err}
use Prim.Native.Nat.{ℕ}
use mathlib.Core.Path.{◌≡◌, refl, sym, ap, ◌∙◌}
use mathlib.Core.List.{List}
use Rattle.show.specs.declared.refusal.Refusal.{Refusal}
use Rattle.show.proofs.Checks.{within_refused}
use Rattle.showfile.specs.declared.Written.{Written}
use Rattle.showfile.specs.Answers.{read_of}
use Rattle.verdict.specs.declared.Decision.{Decision}
use Rattle.verdict.specs.Answers.{refused_for}
use Rattle.verdict.proofs.Once.{decision_once}
use Rattle.reason.specs.Answers.{Reasoned}
use Rattle.reason.specs.declared.Reason.TheVariants as reason
use Rattle.reason.proofs.Once.{reason_once}
use Rattle.report.proofs.Reports.{report_once}
use Rattle.chikchiro.specs.Answers.{
  ReportedIs,
  reported,
  FileDecisionIs,
  Slices,
  DecidedIs,
  verdict_code,
  filled_by,
  FileReasonIs,
  ReasonedIs,
  reason_code,
  reason_over,
}
use Rattle.chikchiro.specs.Answers as answers

pub reported_once : (f b : List ℕ) (m n : ℕ) (x y : List ℕ) → ReportedIs f b m x → ReportedIs f b n y → (m ≡ n) × (x ≡ y)
reported_once f b m n x y (reported r _ h) (reported s _ g) =
    let e = report_once f b r s x y h g in (ap (λ (w : Written). w.len) e.0, e.1)

-- of two readings, the refusals
same_refusal : (f : List ℕ) (v w : Refusal) → (read_of f).check ≡ Err v → (read_of f).check ≡ Err w → v ≡ w
same_refusal f v w p q = let e : Err v ≡ Err w = sym p ∙ q in let same : v ≡ w = cc in same

file_decision_once : (f : List ℕ) (d e : Decision) → FileDecisionIs f d → FileDecisionIs f e → d ≡ e
file_decision_once f d e (answers.read _ p h) (answers.read _ q g) = decision_once (read_of f).show d e h g
file_decision_once f d e (answers.read _ p h) (answers.unread w q) = within_refused (sym p ∙ q)
file_decision_once f d e (answers.unread v p) (answers.read _ q g) = within_refused (sym q ∙ p)
file_decision_once f d e (answers.unread v p) (answers.unread w q) = ap refused_for (same_refusal f v w p q)

pub decided_once : (f : List ℕ) (b : Slices) (m n : ℕ) (x y : Slices) → DecidedIs f b m x → DecidedIs f b n y → (m ≡ n) × (x ≡ y)
decided_once f b m n x y (answers.short l) (answers.short k) = (refl, refl)
decided_once f b m n x y (answers.short l) (answers.decided d k h) = absurd (l k)
decided_once f b m n x y (answers.decided d k h) (answers.short l) = absurd (l k)
decided_once f b m n x y (answers.decided d k h) (answers.decided e l g) =
    let s = file_decision_once f d e h g in
    (ap (λ (z : Decision). verdict_code z.verdict) s, ap (λ (z : Decision). filled_by z.verdict z b) s)

file_reason_once : (f : List ℕ) (p q : Reasoned) → FileReasonIs f p → FileReasonIs f q → p ≡ q
file_reason_once f p q (answers.read _ e h) (answers.read _ g k) = reason_once (read_of f).show p q h k
file_reason_once f p q (answers.read _ e h) (answers.unread w g) = within_refused (sym e ∙ g)
file_reason_once f p q (answers.unread v e) (answers.read _ g k) = within_refused (sym g ∙ e)
file_reason_once f p q (answers.unread v e) (answers.unread w g) = ap Err (same_refusal f v w e g)

pub reasoned_once : (f b : List ℕ) (m n : ℕ) (x y : List ℕ) → ReasonedIs f b m x → ReasonedIs f b n y → (m ≡ n) × (x ≡ y)
reasoned_once f b m n x y (answers.short l) (answers.short k) = (refl, refl)
reasoned_once f b m n x y (answers.short l) (answers.reasoned p k h) = absurd (l k)
reasoned_once f b m n x y (answers.reasoned p k h) (answers.short l) = absurd (l k)
reasoned_once f b m n x y (answers.reasoned p k h) (answers.reasoned q l g) =
    let s = file_reason_once f p q h g in (ap reason_code s, ap (λ (z : Reasoned). reason_over z b) s)
