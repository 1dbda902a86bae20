-- What asking for a workahead answers, case by case. Assumes nothing.
use Rattle.std.specs.Prelude.{Ok, Err}
use Prim.Native.Nat.{ℕ, ◌<◌}
use mathlib.Core.Path.{◌≡◌, sym, ap, ◌∙◌}
use native.Mathlib.Decide.{dec_lt}
use native.Mathlib.Omega.{arith}
use lib.IntN.{ℤ}
use Rattle.show.specs.Outcomes.{Check}
use Rattle.show.specs.declared.Session.{Session}
use Rattle.show.specs.declared.refusal.Refusal.{Refusal}
use Rattle.show.specs.declared.refusal.Refusal.TheVariants as refusal
use Rattle.show.proofs.Checks.{unless_kept, unless_broken, first_refused, first_within}
use Rattle.state.specs.declared.State.{State}
use Rattle.workahead.specs.Times.{ahead_by_state}
use Rattle.workahead.specs.Decisions.{Countable, countable?}
use Rattle.workahead.specs.Answers.{timed, plays_check, countable_check, ahead_for}

-- ---- by the check

module _ (k : Check) (z : ℤ) where
  pub timed_refused : (w : Refusal) → k ≡ Err w → Err w ≡ timed k z
  timed_refused w e = ap (λ (x : Check). timed x z) (sym e)

  pub timed_granted : (y : ℤ) → k ≡ Ok tt → y ≡ z → Ok y ≡ timed k z
  timed_granted y e f = ap Ok f ∙ ap (λ (x : Check). timed x z) (sym e)

pub time_refused : {z : ℤ} {w : Refusal} → Ok z ≡ Err w → ⊥
time_refused e = let z : ◌≡◌ {A = ℕ} 0 1 = cc in let f : ⊥ = omega arith in f

-- ---- a workahead

module _ (x : Session) (s : State) where
  pub ahead_rateless : x.rate ≡ 0 → Err (refusal.SessionLimits 0) ≡ ahead_for x s
  unfolding ahead_for
  ahead_rateless e =
      timed_refused _ _ (refusal.SessionLimits 0)
      (first_refused _ (countable_check s) (unless_broken (dec_lt 0 x.rate) (refusal.SessionLimits 0) (λ l. let f : ⊥ = omega arith in f)))

  module _ (l : 0 < x.rate) where
    rated : plays_check x ≡ Ok tt
    rated = unless_kept (dec_lt 0 x.rate) (refusal.SessionLimits 0) l

    pub ahead_uncountable : (Countable s → ⊥) → Err refusal.Damaged ≡ ahead_for x s
    unfolding ahead_for
    ahead_uncountable n =
        timed_refused _ _ refusal.Damaged (first_within (plays_check x) _ rated ∙ unless_broken (countable? s) refusal.Damaged n)

    pub ahead_time : (z : ℤ) → Countable s → z ≡ ahead_by_state x s → Ok z ≡ ahead_for x s
    unfolding ahead_for
    ahead_time z c e = timed_granted _ _ z (first_within (plays_check x) _ rated ∙ unless_kept (countable? s) refusal.Damaged c) e
