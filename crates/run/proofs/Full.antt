-- A session of a sound run that has no room is more than a round ahead of its cushion. Assumes nothing.
use Prim.Native.Nat.{ℕ, ◌+◌, ◌*◌, ◌≤◌, ◌<◌}
use native.Mathlib.Omega.{arith}
use Rattle.run.specs.declared.Run.{Run}
use Rattle.run.specs.Run.{playing, RoomAt}
use Rattle.run.specs.Sound.{SoundRun}
use Rattle.run.specs.Steps.{skipped}
use Rattle.run.specs.Laws.{Ahead}
use Rattle.run.proofs.Searches.{nobody}

-- No room for a block more means that M blocks and the cushion are there and more: a round takes less than M blocks.
past :
    (RL M A Y B G C P : ℕ) → RL < M * (A * 1000000) → (M + 1) * A + Y ≤ B → G + B < P + A → C ≤ G * 1000000 →
    RL + (Y * 1000000 + C) < P * 1000000
past RL M A Y B G C P a f n c = omega arith

module _ (r : Run) (s : SoundRun r) where
  pub full : (i : ℕ) → i < playing r → (RoomAt r i → ⊥) → Ahead r i
  full i l none =
      past _ _ _ _ _ _ _ _ (s.counts.augmenting i l) (s.counts.feasible i l) (omega arith) (s.states i l).clock

  pub idle_full : playing r ≤ skipped r → (i : ℕ) → i < playing r → Ahead r i
  idle_full h i l = full i l (nobody r s h i l)
