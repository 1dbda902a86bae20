-- From the last digit to the first: with the digits of what is left put in front, the whole number is put. Assumes nothing.
use mathlib.Core.Path.{◌≡◌, refl, sym, ap, ◌∙◌}
use mathlib.Core.List.{List}
use Prim.Native.Nat.{ℕ, ◌+◌, ◌-◌, ◌/◌, ◌%◌, ◌≤◌, ◌<◌}
use native.Mathlib.Nat.{div-lt_self}
use native.Mathlib.Decide.{dec_lt}
use native.Mathlib.Omega.{arith}
use lib.Dec.{lit<}
use lib.ListN.{length, set, length-set}
use Rattle.showfile.specs.Bytes.{over}
use Rattle.showfile.proofs.ByteLaws.{one_over}
use Rattle.text.specs.Decimal.{decimal}
use Rattle.text.proofs.Puts.{over_behind}
use Rattle.text.proofs.Digits.{decimal_last, decimal_more, decimal_least, one_less}
use Rattle.text.proofs.put_decimal.Goals as goal
use Rattle.text.proofs.put_decimal.Invariants.{SoFar}

module _ {was out : List ℕ} {at n i left : ℕ} (h : SoFar was at n out i left) where
  -- more than one digit is left where i has not come to the first ..
  many : at + 1 < i → 10 ≤ left
  many g = from (dec_lt left 10)
    where
      from : Dec (left < 10) → 10 ≤ left
      from (yes l) = absurd (let p = h.place in let f : ⊥ = omega (arith, ap length (decimal_last left l)) in f)
      from (no l) = omega arith

  -- .. and one where it has
  one : i ≤ at + 1 → left < 10
  one g = from (dec_lt left 10)
    where
      from : Dec (left < 10) → left < 10
      from (yes l) = l
      from (no l) =
          absurd
          (let p = h.place in
          let f : ⊥ = omega (arith, one_less left h.narrow (omega arith), decimal_least (left / 10)) in f)

  body : at + 1 < i → SoFar was at n (set out (i - 1) (48 + left % 10)) (i - 1) (left / 10)
  body g =
      let m = many g in
      let p = h.place in
      let s = h.inside in
      let w = h.narrow in
      let b : i - 1 ≡ at + length (decimal (left / 10)) = omega (arith, one_less left w m) in
      let k : length (set out (i - 1) (48 + left % 10)) ≡ length out = length-set out (i - 1) (48 + left % 10) in
      let d = div-lt_self {n = left} {k = 10} (omega arith) (lit< tt) in
      record {
        narrow = omega arith;
        same = k ∙ h.same;
        inside = omega arith;
        place = b;
        so_far =
            ap (λ (x : ℕ). over (set out x (48 + left % 10)) at (decimal (left / 10))) b
            ∙ over_behind out at (decimal (left / 10)) (48 + left % 10) (omega arith)
            ∙ ap (over out at) (sym (decimal_more left w m))
            ∙ h.so_far;
      }

  inside : at < length out
  inside = let p = h.place in let s = h.inside in omega (arith, decimal_least left)

  ended : i ≤ at + 1 → set out at (48 + left) ≡ over was at (decimal n)
  ended g =
      one_over out at (48 + left) (let s = inside in omega arith)
      ∙ ap (over out at) (sym (decimal_last left (one g)))
      ∙ h.so_far

pub loop-i-init : goal.loop-i-init
loop-i-init c = record { narrow = c.ranges.n.fits; same = refl; inside = omega arith; place = omega arith; so_far = refl }

pub loop-i-preserved : goal.loop-i-preserved
loop-i-preserved c = body c.loop-i.invariant c.loop-i-test.true

pub overflow_cast-out-2 : goal.overflow_cast-out-2
overflow_cast-out-2 c = record { fits = omega (arith, one c.loop-i.invariant c.loop-i-test.false) }

pub overflow_add-out-2 : goal.overflow_add-out-2
overflow_add-out-2 c = record { fits = omega (arith, one c.loop-i.invariant c.loop-i-test.false) }

pub bounds-out-at : goal.bounds-out-at
bounds-out-at c = inside c.loop-i.invariant

pub returns : goal.returns
returns c = record { bytes = ended c.loop-i.invariant c.loop-i-test.false; upto = omega (arith, c.requires.digits_value) }
