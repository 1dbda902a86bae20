-- What asking for a workahead answers: docs/RULES.md, section 10.
use Rattle.std.specs.Prelude.{[], ◌∷◌, ℤ, Ok, Err, Result}
use Rattle.std.proofs.Math.Decide.{dec_lt}
use Rattle.show.specs.Outcomes.{Check}
use Rattle.show.specs.declared.refusal.Refusal.{Refusal}
use Rattle.show.specs.declared.Session.{Session}
use Rattle.show.specs.declared.refusal.Refusal.TheVariants as refusal
use Rattle.show.specs.Checks.{unless, first}
use Rattle.show.specs.Outcomes.{Outcome, granted, refused_by}
use Rattle.state.specs.declared.State.{State}
use Rattle.workahead.specs.Times.{ahead_by_state}
use Rattle.workahead.specs.Decisions.{countable?}

-- a time, or why there is none
abbrev pub timed : Check → ℤ → Result ℤ Refusal
timed (Ok tt) z = Ok z
timed (Err w) z = Err w

-- 7: a rate of 0
abbrev pub plays_check : Session → Check
plays_check x = unless (dec_lt 0 x.rate) (refusal.SessionLimits 0)

-- 19: a state that no run has
abbrev pub countable_check : State → Check
countable_check s = unless (countable? s) refusal.Damaged

-- 7, 19
unfoldable pub ahead_for : Session → State → Result ℤ Refusal
ahead_for x s = timed (first (plays_check x) (countable_check s)) (ahead_by_state x s)

-- the time in µs, or the refusal
abbrev pub spare_outcome : Result ℤ Refusal → Outcome
spare_outcome (Ok z) = granted (z ∷ [])
spare_outcome (Err w) = refused_by w
