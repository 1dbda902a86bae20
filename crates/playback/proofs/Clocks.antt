-- The clocks, as the code moves them. Assumes nothing.
use Prim.Native.Nat.{ℕ, ◌*◌, ◌≤◌, ◌<◌}
use native.Mathlib.Nat.{mul-le-mul, le_of_lt}
use Rattle.run.specs.Run.{span_most}

-- R x d keeps to 64 bits.
pub moves_few : (rate d : ℕ) → rate < 4294967296 → d ≤ span_most → rate * d ≤ 4294967296 * span_most
moves_few rate d a b = mul-le-mul {n₂ = 4294967296} (le_of_lt a) b
