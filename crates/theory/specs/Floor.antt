-- Division rounded down, of numbers below zero as well: docs/RULES.md, section 10.
use Rattle.std.specs.Prelude.{ℕ, ◌/◌, ℤ, pos, negsuc, ◌+ℤ◌, ◌*ℤ◌, ◌≤ℤ◌, ◌<ℤ◌}

-- q is z / r rounded down: q x r is at most z, and (q + 1) x r is above it.
pub record Floors (z : ℤ) (r : ℕ) (q : ℤ) : Type 0 where
  pub below : (q *ℤ pos r) ≤ℤ z
  pub above : z <ℤ ((q +ℤ pos 1) *ℤ pos r)

-- The one that it is; of -(a + 1) it is -(a / r + 1).
unfoldable pub floor_z : ℤ → ℕ → ℤ
floor_z (pos a) r = pos (a / r)
floor_z (negsuc a) r = negsuc (a / r)
