-- The places of a cycle and their sessions, in numbers that arrays of sixteen take. Assumes nothing.
use Prim.Native.Nat.{ℕ, ◌≤◌, ◌<◌}
use native.Mathlib.Omega.{arith}
use Rattle.run.specs.declared.Run.{Run}
use Rattle.state.specs.State.{put_most}
use Rattle.run.specs.Run.{playing, state_at, seat_at, onward}
use Rattle.run.specs.Seats.{Seated}
use Rattle.run.specs.Sound.{SoundRun}
use Rattle.run.proofs.Steps.{onward_below, seat_below}

-- A sound run of somebody is somewhere in its cycle.
pub sound_seated : (r : Run) → SoundRun r → 0 < playing r → Seated r
sound_seated r s l =
    record {
      some = record { low = l; high = s.within.counts.sessions };
      place = (s.cycle.turning l).place;
      seats = seat_below r s;
    }

module _ (r : Run) (h : Seated r) where
  pub onward_in : (k : ℕ) → onward r k < playing r
  onward_in k = onward_below r k h.some.low

  pub onward_few : (k : ℕ) → onward r k < 16
  onward_few k = let b = onward_in k in let n = h.some.high in omega arith

  pub seat_few : (k : ℕ) → k < playing r → seat_at r k < 16
  seat_few k l = let b = h.seats k l in let n = h.some.high in omega arith

  pub ahead_few : (k : ℕ) → seat_at r (onward r k) < 16
  ahead_few k = seat_few (onward r k) (onward_in k)

-- P of the session at a place is within its limit.
pub seat_put : (r : Run) → SoundRun r → (k : ℕ) → k < playing r → (state_at r (seat_at r k)).put ≤ put_most
seat_put r s k l = (s.states (seat_at r k) (seat_below r s k l)).put
