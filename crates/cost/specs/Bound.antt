-- U, the worst time for n blocks (docs/RULES.md, section 3), over any cost; and the laws that all else knows of it.
use Rattle.std.specs.Prelude.{ℕ, ◌+◌, ◌*◌, ◌/◌, ◌-◌, ◌≤◌, ◌<◌}
use Rattle.cost.specs.declared.Cost.{Cost}

-- a/b rounded up
unfoldable pub ceil : ℕ → ℕ → ℕ
ceil a b = (a + b - 1) / b

-- The cylinder edges that n blocks cross at most: n/N rounded up.
unfoldable pub edges : ℕ → ℕ → ℕ
edges N n = ceil n N

-- U(n): once the fixed part, for each block its time, for each cylinder edge a crossing.
unfoldable pub worst_time : ℕ → Cost → ℕ → ℕ
worst_time N c n = c.fixed + n * c.each + edges N n * c.cross

-- N blocks on one cylinder, with the crossing that they share: N times what a block adds in the long run.
abbrev pub weight : ℕ → Cost → ℕ
weight N c = N * c.each + c.cross

-- What N U(n) has beyond n times the weight, at most.
abbrev pub surplus_of : ℕ → Cost → ℕ
surplus_of N c = N * c.fixed + (N - 1) * c.cross

-- What is known of U elsewhere, but for the one function that works it out, with B5 and B6 below: B1 to B4, of a bound u that weighs w,
-- on a drive with N blocks per cylinder.
pub record BoundLaws (N w surplus : ℕ) (u : ℕ → ℕ) : Type 0 where
  -- B1: an operation takes time
  pub some : (n : ℕ) → 1 ≤ n → 1 ≤ u n
  -- B2: more blocks take longer
  pub rises : (m n : ℕ) → m < n → u m < u n
  -- B3: one operation takes no longer than two for the same blocks
  pub merges : (a b : ℕ) → 1 ≤ a → 1 ≤ b → u (a + b) ≤ u a + u b
  -- B4: N u(n) is n w, up to what does not depend on n
  pub weighs : 1 ≤ w
  pub low : (n : ℕ) → n * w ≤ N * u n
  pub high : (n : ℕ) → N * u n ≤ n * w + surplus

-- The two limits that B1 to B4 rest on: a crossing is no dearer than the fixed part, and a block takes time.
pub record Modest (c : Cost) : Type 0 where
  pub edge : c.cross ≤ c.fixed
  pub block : 1 ≤ c.each

-- B5 compares two costs: no larger in any part.
pub record Cheaper (c d : Cost) : Type 0 where
  pub fixed : c.fixed ≤ d.fixed
  pub each : c.each ≤ d.each
  pub cross : c.cross ≤ d.cross

-- B6 has the limits of a cost. A read stays well below: they leave room for a dearer operation.
abbrev pub fixed_most : ℕ
fixed_most = 5000000

abbrev pub each_most : ℕ
each_most = 3000000

abbrev pub cross_most : ℕ
cross_most = 1000000

pub record Limited (c : Cost) : Type 0 where
  pub fixed : c.fixed ≤ fixed_most
  pub each : c.each ≤ each_most
  pub cross : c.cross ≤ cross_most

-- No buffer holds more blocks than this ..
abbrev pub count_most : ℕ
count_most = 2097152

-- .. and no operation of so many takes as long as this.
abbrev pub worst_most : ℕ
worst_most = 10000000000000
