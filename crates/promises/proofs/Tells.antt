-- The laws by which tests that follow one another tell the first fault. Assumes nothing.
use Rattle.std.specs.Prelude.{Ok, Err}
use Prim.Native.Nat.{ℕ, ◌≤◌, ◌<◌}
use mathlib.Core.Path.{◌≡◌, refl, ap, ◌∙◌}
use mathlib.Core.List.{List, [], ◌∷◌}
use mathlib.Core.Logic.{ite}
use native.Mathlib.Decide.{dec_le, dec_lt}
use native.Mathlib.Omega.{arith}
use lib.IntN.{ℤ, pos}
use Rattle.show.specs.Outcomes.{Check}
use Rattle.show.specs.declared.Show.{Show}
use Rattle.show.specs.declared.refusal.Refusal.{Refusal}
use Rattle.show.specs.declared.refusal.Refusal.TheVariants as refusal
use Rattle.show.specs.Outcomes.{Outcome, granted, refused_by, check_outcome}
use Rattle.show.specs.Checks.{unless, first}
use Rattle.cost.specs.WorstTimes.{worst_answer, worst_outcome}
use Rattle.count.specs.Answers.{asked_answer, asked_outcome}
use Rattle.verdict.specs.Answers.{verdict_outcome}
use Rattle.reason.specs.Answers as reason
use Rattle.reason.specs.Answers.{loaded_outcome}
use Rattle.run.specs.declared.Run.{Run}
use Rattle.run.specs.Opening.{opened_by}
use Rattle.run_test.specs.declared.Test.TheVariants as test
use Rattle.run_test.specs.Answers.{test_outcome}
use Rattle.scheduler.specs.Answers.{next_of, chosen_by, choice_outcome}
use Rattle.workahead.specs.Answers.{timed, spare_outcome}
use Rattle.spare.specs.Answers.{spared}
use Rattle.promises.specs.Order.{refused_with, ◌when◌else◌}

-- what an answer comes to by its check: the refusal, or what is granted
abbrev pub after : Check → Outcome → Outcome
after (Ok tt) o = o
after (Err w) o = refused_by w

pub after_first : (x y : Check) (o : Outcome) → after (first x y) o ≡ after x (after y o)
after_first (Ok tt) y o = refl
after_first (Err w) y o = refl

-- A test of a fault.
pub data Tests (fault : Type 0) (w : Refusal) : Check → Type 0 where
  clear : (fault → ⊥) → Tests fault w (Ok tt)
  faulty : fault → Tests fault w (Err w)

pub unless_tests : {p fault : Type 0} {w : Refusal} (d : Dec p) → (fault → p → ⊥) → ((p → ⊥) → fault) → Tests fault w (unless d w)
unless_tests (yes h) f g = clear (λ b. f b h)
unless_tests (no h) f g = faulty (g h)

-- the same where the fault is that p does not hold
pub unless_fails : {p : Type 0} {w : Refusal} (d : Dec p) → Tests (p → ⊥) w (unless d w)
unless_fails d = unless_tests d (λ b h. b h) (λ n. n)

-- where the fault is a number that is too large
pub below_tests : (i n : ℕ) {w : Refusal} → Tests (n ≤ i) w (unless (dec_lt i n) w)
below_tests i n = unless_tests (dec_lt i n) (λ b h. let f : ⊥ = omega arith in f) (λ m. omega arith)

pub most_tests : (n most : ℕ) {w : Refusal} → Tests (most < n) w (unless (dec_le n most) w)
most_tests n most = unless_tests (dec_le n most) (λ b h. let f : ⊥ = omega arith in f) (λ m. omega arith)

-- ---- tests that follow one another

module _ (o : Outcome) {fault : Type 0} {w : Refusal} {rest : Outcome → Type 0} {n : ℕ} where
  -- The last test: o is granted.
  pub tells_last : {x : Check} → Tests fault w x → refused_by w ≡ refused_with n 0 → (x ≡ Ok tt → rest o) → (n when fault else rest) (after x o)
  tells_last (clear h) e g = record { present = λ b. absurd (h b); absent = λ c. g refl }
  tells_last (faulty b) e g = record { present = λ c. e; absent = λ c. absurd (c b) }

  -- A test before others.
  pub tells_then :
      (y : Check) {x : Check} → Tests fault w x → refused_by w ≡ refused_with n 0 → (x ≡ Ok tt → rest (after y o)) →
      (n when fault else rest) (after (first x y) o)
  tells_then y (clear h) e g = record { present = λ b. absurd (h b); absent = λ c. g refl }
  tells_then y (faulty b) e g = record { present = λ c. e; absent = λ c. absurd (c b) }

-- ---- what an answer comes to by its check

pub check_outcome_is : (k : Check) → check_outcome k ≡ after k (granted [])
check_outcome_is (Ok tt) = refl
check_outcome_is (Err w) = refl

-- where the check stands in a struct
pub outcome_by : {c k : Check} → c ≡ k → check_outcome c ≡ after k (granted [])
outcome_by {k = k} e = ap check_outcome e ∙ check_outcome_is k

pub worst_outcome_is : (k : Check) (t : ℕ) → worst_outcome (worst_answer k t) ≡ after k (granted (pos t ∷ []))
worst_outcome_is (Ok tt) t = refl
worst_outcome_is (Err w) t = refl

pub asked_outcome_is : (k : Check) (m : ℕ) → asked_outcome (asked_answer k m) ≡ after k (granted (pos m ∷ []))
asked_outcome_is (Ok tt) m = refl
asked_outcome_is (Err w) m = refl

pub loaded_outcome_is : (k : Check) (t : ℕ) → loaded_outcome (reason.load_answer k t) ≡ after k (granted (pos t ∷ []))
loaded_outcome_is (Ok tt) t = refl
loaded_outcome_is (Err w) t = refl

pub opened_outcome : (s : Show) (c : List ℕ) (v : Check) → check_outcome (opened_by s c v).check ≡ verdict_outcome v
opened_outcome s c (Ok tt) = refl
opened_outcome s c (Err w) = refl

pub test_outcome_is : {p : Type 0} (d : Dec p) → test_outcome (ite d test.Sound test.Damaged) ≡ after (unless d refusal.Damaged) (granted [])
test_outcome_is (yes h) = refl
test_outcome_is (no h) = refl

pub timed_outcome : (k : Check) (z : ℤ) → spare_outcome (timed k z) ≡ after k (granted (z ∷ []))
timed_outcome (Ok tt) z = refl
timed_outcome (Err w) z = refl

pub spared_outcome : (k : Check) (z : ℤ) (r : Run) → spare_outcome (spared k z r).spare ≡ after k (granted (z ∷ []))
spared_outcome (Ok tt) z r = refl
spared_outcome (Err w) z r = refl

pub chosen_outcome : (k : Check) (r : Run) → choice_outcome (chosen_by k r).choice ≡ after k (choice_outcome (next_of r).choice)
chosen_outcome (Ok tt) r = refl
chosen_outcome (Err w) r = refl
