-- The laws of U, B1 to B6, from what is known of the edges. Assumes nothing.
use Prim.Native.Nat.{ℕ, ◌+◌, ◌*◌, ◌-◌, ◌≤◌, ◌<◌}
use mathlib.Core.Path.{◌≡◌, ◌∙◌, ap}
use native.Mathlib.Omega.{arith}
use native.Mathlib.Nat.{le_of_eq, le_trans, one-mul, add-mul, mul-add, mul_assoc, mul_left_comm}
use native.Mathlib.Nat.{mul-le-mul, mul-le-mul_left, mul-le-mul_right, mul-lt-mul_of_pos_right, mul-pos}
use native.Mathlib.Decide.{dec_lt}
use Rattle.cost.specs.declared.Cost.{Cost}
use Rattle.cost.specs.Bound.{Modest, Cheaper, Limited, edges, worst_time, weight, surplus_of, BoundLaws}
use Rattle.cost.specs.Bound.{fixed_most, each_most, cross_most, count_most, worst_most}
use Rattle.cost.proofs.EdgeLaws.{edges_grow, edges_merge, edges_enough, edges_few, edges_capped}

-- No fewer blocks take no less.
pub bound_grows : {N w k : ℕ} {u : ℕ → ℕ} → BoundLaws N w k u → (m n : ℕ) → m ≤ n → u m ≤ u n
bound_grows {u = u} laws m n h = from (dec_lt m n)
  where
    from : Dec (m < n) → u m ≤ u n
    from (yes l) = let g = laws.rises m n l in omega arith
    from (no l) = le_of_eq (ap u (omega arith))

module _ (N : ℕ) (some : 1 ≤ N) (c : Cost) (m : Modest c) where
  worst_rises : (a b : ℕ) → a < b → worst_time N c a < worst_time N c b
  unfolding worst_time
  worst_rises a b h =
      let blocks : a * c.each < b * c.each = mul-lt-mul_of_pos_right h m.block in
      let crossed : edges N a * c.cross ≤ edges N b * c.cross =
      mul-le-mul_right c.cross (edges_grow N some a b (omega arith)) in
      omega arith

  -- The edge between the two is paid by the fixed part of the second.
  worst_merges : (a b : ℕ) → 1 ≤ a → 1 ≤ b → worst_time N c (a + b) ≤ worst_time N c a + worst_time N c b
  unfolding worst_time
  worst_merges a b p q =
      let crossed : edges N (a + b) * c.cross ≤ (edges N a + edges N b + 1) * c.cross =
      mul-le-mul_right c.cross (edges_merge N some a b p q) in
      let edge = m.edge in
      omega (arith, add-mul a b c.each, add-mul (edges N a + edges N b) 1 c.cross, add-mul (edges N a) (edges N b) c.cross, one-mul c.cross)

  weights : (n : ℕ) → n * weight N c ≡ n * (N * c.each) + n * c.cross
  weights n = mul-add n (N * c.each) c.cross

  worsts : (n : ℕ) → N * worst_time N c n ≡ N * c.fixed + n * (N * c.each) + N * edges N n * c.cross
  unfolding worst_time
  worsts n =
      mul-add N (c.fixed + n * c.each) (edges N n * c.cross)
      ∙ omega (arith, mul-add N c.fixed (n * c.each), mul_left_comm N n c.each, mul_assoc N (edges N n) c.cross)

  worst_low : (n : ℕ) → n * weight N c ≤ N * worst_time N c n
  worst_low n =
      let crossed : n * c.cross ≤ (N * edges N n + N) * c.cross = mul-le-mul_right c.cross (edges_enough N some n) in
      let paid : N * c.cross ≤ N * c.fixed = mul-le-mul_left N m.edge in
      omega (arith, weights n, worsts n, add-mul (N * edges N n) N c.cross)

  worst_high : (n : ℕ) → N * worst_time N c n ≤ n * weight N c + surplus_of N c
  worst_high n =
      let crossed : N * edges N n * c.cross ≤ (n + (N - 1)) * c.cross = mul-le-mul_right c.cross (edges_few N some n) in
      omega (arith, weights n, worsts n, add-mul n (N - 1) c.cross)

  -- B1 to B4: U of every modest cost has the laws.
  pub worst_laws : BoundLaws N (weight N c) (surplus_of N c) (worst_time N c)
  worst_laws =
      record {
        some = λ n h. (let g = worst_rises 0 n h in omega arith);
        rises = worst_rises;
        merges = worst_merges;
        weighs = (let h : 1 ≤ N * c.each = mul-pos some m.block in omega arith);
        low = worst_low;
        high = worst_high;
      }

-- B5: a cheaper operation takes no longer.
pub worst_cheaper : (N : ℕ) (c d : Cost) → Cheaper c d → (n : ℕ) → worst_time N c n ≤ worst_time N d n
unfolding worst_time
worst_cheaper N c d h n =
    let blocks : n * c.each ≤ n * d.each = mul-le-mul_left n h.each in
    let crossed : edges N n * c.cross ≤ edges N n * d.cross = mul-le-mul_left (edges N n) h.cross in
    let f = h.fixed in
    omega arith

-- The two products of U, for at most k blocks of a limited cost.
pub record PartsCapped (N k : ℕ) (c : Cost) (n : ℕ) : Type 0 where
  pub blocks : n * c.each ≤ k * each_most
  pub crossed : edges N n * c.cross ≤ k * cross_most

pub parts_capped : (N k : ℕ) (c : Cost) → Limited c → (n : ℕ) → n ≤ k → PartsCapped N k c n
parts_capped N k c l n h =
    record { blocks = mul-le-mul h l.each; crossed = mul-le-mul (le_trans (edges_capped N n) h) l.cross }

-- At most k blocks, of a limited cost.
pub worst_below : (N k : ℕ) (c : Cost) → Limited c → (n : ℕ) → n ≤ k → worst_time N c n ≤ fixed_most + k * (each_most + cross_most)
unfolding worst_time
worst_below N k c l n h = omega (arith, parts_capped N k c l n h, l.fixed)

-- B6: within the limits no operation that fits a buffer takes 10,000,000 seconds.
pub worst_capped : (N : ℕ) (c : Cost) → Limited c → (n : ℕ) → n ≤ count_most → worst_time N c n < worst_most
worst_capped N c l n h = let g = worst_below N count_most c l n h in omega arith
