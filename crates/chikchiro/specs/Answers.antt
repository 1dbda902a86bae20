-- What the calls for C answer, and what the lent slices then hold.
use Rattle.std.specs.Prelude.{ℕ, ◌+◌, ◌*◌, ◌≤◌, ◌≡◌, List, [], ◌∷◌, length, Ok, Err, Some, None}
use Rattle.show.specs.Outcomes.{Check}
use Rattle.show.specs.declared.refusal.Refusal.{Refusal}
use Rattle.show.specs.declared.refusal.Refusal.TheVariants.{BufferShort}
use Rattle.show.specs.Refusals.{number_of, place_of}
use Rattle.showfile.specs.declared.Written.{Written}
use Rattle.showfile.specs.Answers.{read_of}
use Rattle.showfile.specs.Bytes.{over}
use Rattle.verdict.specs.declared.Decision.{Decision}
use Rattle.verdict.specs.Answers.{DecisionIs, refused_for}
use Rattle.reason.specs.declared.Reason.TheVariants as reason
use Rattle.reason.specs.Answers.{Reasoned, ReasonIs}
use Rattle.report.specs.Answers.{ReportIs}

-- a refusal in one number: its number, and 256 times its place
abbrev pub code_of : Refusal → ℕ
code_of w = number_of w + 256 * place_of w

-- ---- the report

-- The length alone of what the report answers: 0 where it answers 16, since then it puts nothing, and no text is empty.
pub data ReportedIs (f b : List ℕ) : ℕ → List ℕ → Type 0 where
  reported : (r : Written) (x : List ℕ) → ReportIs f b r x → ReportedIs f b r.len x

-- ---- the verdict

-- what is decided of the show in a file; of a file that is no show's, 1 to 7
pub data FileDecisionIs (f : List ℕ) : Decision → Type 0 where
  read : (d : Decision) → (read_of f).check ≡ Ok tt → DecisionIs (read_of f).show d → FileDecisionIs f d
  unread : (w : Refusal) → (read_of f).check ≡ Err w → FileDecisionIs f (refused_for w)

-- the three slices that are lent for it
pub record Slices : Type 0 where
  pub counts : List ℕ
  pub times : List ℕ
  pub round : List ℕ

abbrev pub slices : List ℕ → List ℕ → List ℕ → Slices
slices c t l = record { counts = c; times = t; round = l }

pub record Enough (b : Slices) : Type 0 where
  pub counts : 16 ≤ length b.counts
  pub times : 16 ≤ length b.times
  pub round : 1 ≤ length b.round

-- 0 for a yes, and the slices from their first places on; a no in one number, and the slices as they were
abbrev pub verdict_code : Check → ℕ
verdict_code (Ok tt) = 0
verdict_code (Err w) = code_of w

abbrev pub filled_by : Check → Decision → Slices → Slices
filled_by (Ok tt) d b =
    slices (over b.counts 0 d.counts) (over b.times 0 d.times) (over b.round 0 (d.round ∷ []))
filled_by (Err w) d b = b

-- Too short a slice is 16, whatever the file, and no slice changes.
pub data DecidedIs (f : List ℕ) (b : Slices) : ℕ → Slices → Type 0 where
  short : (Enough b → ⊥) → DecidedIs f b (code_of BufferShort) b
  decided :
      (d : Decision) → Enough b → FileDecisionIs f d →
      DecidedIs f b (verdict_code d.verdict) (filled_by d.verdict d b)

-- ---- the reason

pub data FileReasonIs (f : List ℕ) : Reasoned → Type 0 where
  read : (r : Reasoned) → (read_of f).check ≡ Ok tt → ReasonIs (read_of f).show r → FileReasonIs f r
  unread : (w : Refusal) → (read_of f).check ≡ Err w → FileReasonIs f (Err w)

-- which reason, the session and the size: zeros where there is none
abbrev pub reason_code : Reasoned → ℕ
reason_code (Ok found) = 0
reason_code (Err w) = code_of w

abbrev pub reason_over : Reasoned → List ℕ → List ℕ
reason_over (Ok None) b = over b 0 (0 ∷ 0 ∷ 0 ∷ [])
reason_over (Ok (Some reason.Overload)) b = over b 0 (1 ∷ 0 ∷ 0 ∷ [])
reason_over (Ok (Some reason.Beyond)) b = over b 0 (2 ∷ 0 ∷ 0 ∷ [])
reason_over (Ok (Some (reason.Buffer i size))) b = over b 0 (3 ∷ i ∷ size ∷ [])
reason_over (Err w) b = b

pub data ReasonedIs (f b : List ℕ) : ℕ → List ℕ → Type 0 where
  short : (3 ≤ length b → ⊥) → ReasonedIs f b (code_of BufferShort) b
  reasoned : (r : Reasoned) → 3 ≤ length b → FileReasonIs f r → ReasonedIs f b (reason_code r) (reason_over r b)
