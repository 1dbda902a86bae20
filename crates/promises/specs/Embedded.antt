-- Demand 1 for C: what the calls answer in one number, and what is left in the slices. proofs/Embedded.antt proves it.
use Rattle.std.specs.Prelude.{ℕ, ◌/◌, ◌%◌, ◌<◌, ◌≡◌, List, [], ◌∷◌, ◌↔◌, length, Ok}
use Rattle.show.specs.Outcomes.{Check}
use Rattle.show.specs.declared.refusal.Refusal.{Refusal}
use Rattle.show.specs.Refusals.{number_of, place_of}
use Rattle.show.specs.Outcomes.{Outcome}
use Rattle.theory.specs.Counts.{Accepted}
use Rattle.report.specs.Answers.{load_in, text_most}
use Rattle.chikchiro.specs.Answers.{code_of, verdict_code, Slices, Enough, ReportedIs, DecidedIs, ReasonedIs}
use Rattle.promises.specs.Refusals.{OneOf}
use Rattle.promises.specs.Order.{Grants, ◌when◌else◌, ◌tells◌, FileThen}

-- what the one number comes to
abbrev pub code_outcome : ℕ → Outcome
code_outcome n = record { number = n % 256; place = n / 256; values = [] }

pub record Embedded : Type 0 where
  -- Every file gets an answer, with slices of any length.
  pub reporting : (f b : List ℕ) → (n : ℕ) × ((x : List ℕ) × ReportedIs f b n x)
  pub deciding : (f : List ℕ) (b : Slices) → (r : ℕ) × ((x : Slices) × DecidedIs f b r x)
  pub reasoning : (f b : List ℕ) → (r : ℕ) × ((x : List ℕ) × ReasonedIs f b r x)
  -- From the one number that stands for a refusal its number is read, and its place; and it is not 0, which stands for a yes.
  pub number : (w : Refusal) → code_of w % 256 ≡ number_of w
  pub place : (w : Refusal) → code_of w / 256 ≡ place_of w
  pub yes : (v : Check) → (verdict_code v ≡ 0) ↔ (v ≡ Ok tt)
  -- No other number is said than these.
  pub decided_says :
      (f : List ℕ) (b : Slices) (r : ℕ) (x : Slices) → DecidedIs f b r x → (w : Refusal) → r ≡ code_of w →
      OneOf (16 ∷ 1 ∷ 2 ∷ 3 ∷ 4 ∷ 5 ∷ 6 ∷ 7 ∷ 8 ∷ []) (number_of w)
  pub reasoned_says :
      (f b : List ℕ) (r : ℕ) (x : List ℕ) → ReasonedIs f b r x → (w : Refusal) → r ≡ code_of w →
      OneOf (16 ∷ 1 ∷ 2 ∷ 3 ∷ 4 ∷ 5 ∷ 6 ∷ 7 ∷ []) (number_of w)
  -- 16 where a slice is too short, whatever the file; else 1 to 7 in the order of reading, then 8 where no set of counts will do.
  pub decided_order :
      (f : List ℕ) (b : Slices) (r : ℕ) (x : Slices) → DecidedIs f b r x →
      code_outcome r tells 16 when (Enough b → ⊥) else FileThen f (8 when (Accepted (load_in f) → ⊥) else Grants)
  pub reasoned_order :
      (f b : List ℕ) (r : ℕ) (x : List ℕ) → ReasonedIs f b r x → code_outcome r tells 16 when length b < 3 else FileThen f Grants
  -- Refused, every place of every slice is what it was.
  pub decided_kept : (f : List ℕ) (b : Slices) (r : ℕ) (x : Slices) → DecidedIs f b r x → (r ≡ 0 → ⊥) → x ≡ b
  pub reasoned_kept : (f b : List ℕ) (r : ℕ) (x : List ℕ) → ReasonedIs f b r x → (r ≡ 0 → ⊥) → x ≡ b
  -- A text of no bytes is told exactly where the buffer would not take every text, and then no byte of it has changed.
  pub report_none : (f b : List ℕ) (n : ℕ) (x : List ℕ) → ReportedIs f b n x → (n ≡ 0) ↔ (length b < text_most)
  pub report_kept : (f b : List ℕ) (n : ℕ) (x : List ℕ) → ReportedIs f b n x → length b < text_most → x ≡ b
