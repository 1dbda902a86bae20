-- What is known of the count of cylinder edges: all that the laws of U use. Assumes nothing.
use Prim.Native.Nat.{ℕ, zero, suc, ◌+◌, ◌*◌, ◌-◌, ◌≤◌}
use mathlib.Core.Path.{◌≡◌}
use native.Mathlib.Omega.{arith}
use native.Mathlib.Nat.{mul_comm, div-zero}
use Rattle.cost.specs.Bound.{ceil, edges}
use Rattle.cost.proofs.Ceil.{ceil_enough, ceil_grows, ceil_merges, ceil_few, ceil_capped}

module _ (N : ℕ) (some : 1 ≤ N) where
  pub edges_grow : (m n : ℕ) → m ≤ n → edges N m ≤ edges N n
  unfolding edges
  edges_grow = ceil_grows N some

  -- Two operations may have one edge between them.
  pub edges_merge : (a b : ℕ) → 1 ≤ a → 1 ≤ b → edges N (a + b) ≤ edges N a + edges N b + 1
  unfolding edges
  edges_merge a b p q = omega (arith, ceil_merges N some a b)

  pub edges_enough : (n : ℕ) → n ≤ N * edges N n + N
  unfolding edges
  edges_enough n = omega (arith, ceil_enough N some n, mul_comm N (ceil n N))

  pub edges_few : (n : ℕ) → N * edges N n ≤ n + (N - 1)
  unfolding edges
  edges_few n = omega (arith, ceil_few N some n, mul_comm N (ceil n N))

-- No more edges than blocks. (A cylinder of 0 blocks has none: nothing is divided by 0.)
pub edges_none : (n : ℕ) → edges 0 n ≡ 0
unfolding edges ceil
edges_none n = div-zero _

pub edges_capped : (N n : ℕ) → edges N n ≤ n
unfolding edges
edges_capped zero n = omega (arith, edges_none n)
edges_capped (suc N) n = ceil_capped (suc N) (omega arith) n
