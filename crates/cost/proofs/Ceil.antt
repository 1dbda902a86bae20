-- Rounding up: n/N rounded up is the least k with n ≤ k N, and all else follows from that. Assumes nothing.
use Prim.Native.Nat.{ℕ, ◌+◌, ◌*◌, ◌/◌, ◌-◌, ◌≤◌, ◌<◌}
use native.Mathlib.Omega.{arith}
use native.Mathlib.Nat.{le_trans, one-mul, add-mul, mul_comm, le-mul_of_pos_right, mul-div-le, div-lt_iff_lt-mul}
use Rattle.cost.specs.Bound.{ceil}

module _ (N : ℕ) (some : 1 ≤ N) where
  pub ceil_enough : (n : ℕ) → n ≤ ceil n N * N
  unfolding ceil
  ceil_enough n =
      let h : n + N - 1 < (ceil n N + 1) * N = (div-lt_iff_lt-mul some).0 (omega arith) in
      omega (arith, add-mul (ceil n N) 1 N, one-mul N)

  pub ceil_least : (n k : ℕ) → n ≤ k * N → ceil n N ≤ k
  unfolding ceil
  ceil_least n k h =
      let g : (n + N - 1) / N < k + 1 = (div-lt_iff_lt-mul some).1 (omega (arith, add-mul k 1 N, one-mul N)) in
      omega arith

  pub ceil_grows : (m n : ℕ) → m ≤ n → ceil m N ≤ ceil n N
  ceil_grows m n h = ceil_least m (ceil n N) (le_trans h (ceil_enough n))

  pub ceil_merges : (a b : ℕ) → ceil (a + b) N ≤ ceil a N + ceil b N
  ceil_merges a b =
      ceil_least (a + b) (ceil a N + ceil b N)
      (omega (arith, ceil_enough a, ceil_enough b, add-mul (ceil a N) (ceil b N) N))

  pub ceil_few : (n : ℕ) → ceil n N * N < n + N
  unfolding ceil
  ceil_few n = omega (arith, mul-div-le (n + N - 1) N, mul_comm N (ceil n N))

  pub ceil_capped : (n : ℕ) → ceil n N ≤ n
  ceil_capped n = ceil_least n n (le-mul_of_pos_right n some)
