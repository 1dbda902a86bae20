-- A time in units of A x 1,000,000, and what a session is asked for over it. Assumes nothing.
use Prim.Native.Nat.{ℕ, ◌+◌, ◌*◌, ◌/◌, ◌≤◌, ◌<◌}
use mathlib.Core.Path.{◌≡◌, ap}
use native.Mathlib.Omega.{arith}
use native.Mathlib.Nat.{le_trans, add-le-add, mul-le-mul, div-add-mod, div-le_self, mod-lt, div-lt_iff_lt-mul}
use Rattle.show.specs.Limits.{Between, block_least, block_most, rate_most}
use Rattle.theory.specs.Rounds.{need}
use Rattle.count.specs.Spans.{span_of, Short, asked_of}
use Rattle.count.specs.declared.span.Span.{Span}

-- A time that is split and put together again is the same time.
pub span_asked : (r D t : ℕ) (p : Span) → p ≡ span_of D t → asked_of r p ≡ need r D t
span_asked r D t p e = rw e (ap (need r D) (div-add-mod t D))

-- The parts, times a rate, fit 64 bits.
module _ (r : ℕ) (p : Span) (h : r ≤ rate_most) (s : Short p) where
  pub whole_capped : r * p.whole ≤ rate_most * 36028797018
  whole_capped = mul-le-mul h s.many

  pub part_capped : r * p.part ≤ rate_most * (block_most * 1000000)
  part_capped = let g : p.part ≤ block_most * 1000000 = (let a = s.rest in let b = s.within in omega arith) in mul-le-mul h g

  pub sum_capped : r * p.whole + r * p.part / p.unit ≤ rate_most * 36028797018 + rate_most * (block_most * 1000000)
  sum_capped = add-le-add whole_capped (le_trans (div-le_self (r * p.part) p.unit) part_capped)

-- Every time of 64 bits is short enough.
pub span_short : (A t : ℕ) (p : Span) → Between block_least A block_most → t ≤ 18446744073709551615 → p ≡ span_of (A * 1000000) t → Short p
span_short A t p h l e =
    let low = h.low in
    let high = h.high in
    rw e
    (record {
      some = omega arith;
      within = omega arith;
      rest = mod-lt t (omega arith);
      many =
          (let q : t / (A * 1000000) < 36028797019 =
          (div-lt_iff_lt-mul {k = A * 1000000} {x = t} {y = 36028797019} (omega arith)).1 (omega arith) in
          omega arith);
    })
