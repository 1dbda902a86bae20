-- A time that was told, and how it came about. Assumes nothing.
use Rattle.std.specs.Prelude.{Ok, Err}
use Prim.Native.Nat.{ℕ, ◌<◌}
use mathlib.Core.Path.{◌≡◌, refl, sym}
use native.Mathlib.Decide.{dec_lt}
use native.Mathlib.Omega.{arith}
use lib.IntN.{ℤ}
use Rattle.show.specs.Outcomes.{Check}
use Rattle.show.specs.declared.Session.{Session}
use Rattle.show.specs.declared.refusal.Refusal.TheVariants as refusal
use Rattle.show.specs.Checks.{first}
use Rattle.show.proofs.Checks.{unless_within, first_left}
use Rattle.state.specs.declared.State.{State}
use Rattle.workahead.specs.Times.{ahead_by_state}
use Rattle.workahead.specs.Answers.{timed, plays_check, countable_check, ahead_for}

pub time_told : (k : Check) (z y : ℤ) → timed k z ≡ Ok y → (k ≡ Ok tt) × (y ≡ z)
time_told (Ok tt) z y e = (refl, (let f : z ≡ y = cc in sym f))
time_told (Err w) z y e = absurd (let z : ◌≡◌ {A = ℕ} 0 1 = cc in let f : ⊥ = omega arith in f)

pub ahead_told : (x : Session) (s : State) (y : ℤ) → ahead_for x s ≡ Ok y → (0 < x.rate) × (y ≡ ahead_by_state x s)
unfolding ahead_for
ahead_told x s y e =
    let t = time_told (first (plays_check x) (countable_check s)) (ahead_by_state x s) y e in
    (unless_within (dec_lt 0 x.rate) (refusal.SessionLimits 0) (first_left (plays_check x) (countable_check s) t.0), t.1)
