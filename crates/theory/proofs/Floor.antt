-- Division rounded down is the one that it should be, and grows. Assumes nothing.
use Prim.Native.Nat.{ℕ, suc, ◌+◌, ◌-◌, ◌*◌, ◌/◌, ◌≤◌, ◌<◌}
use mathlib.Core.Path.{◌≡◌, ◌∙◌, ap}
use native.Mathlib.Omega.{arith}
use native.Mathlib.Nat.{add-mul, mul-le-mul_left, suc-mul, div-mul-le_self, lt-div-mul-add, le-div_iff_mul-le, lt_of_mul-lt-mul_right}
use native.Mathlib.Decide.{dec_le}
use lib.Dec.{le→leb}
use lib.IntN.{ℤ, pos, negsuc, sub_ℕ, ◌+ℤ◌, ◌*ℤ◌}
use lib.Signed.{◌≤ℤ◌, ≤ℤ_refl, le_z_yes}
use Rattle.theory.specs.Floor.{Floors, floor_z}
use Rattle.theory.proofs.Integers.{≤ℤ-antisymm, sub_ge, sub_lt, from_pos, from_negsuc, difference}
use Rattle.theory.proofs.Integers.{sub_le, sub_below, le_sub, below_sub, sub_more, sub_times}

-- ---- rounded down, among differences

one_more : (p q r : ℕ) → (sub_ℕ p q +ℤ pos 1) *ℤ pos r ≡ sub_ℕ ((p + 1) * r) (q * r)
one_more p q r = ap (λ (z : ℤ). z *ℤ pos r) (sub_more p q 1) ∙ sub_times (p + 1) q r

floors_sub :
    (a b r p q : ℕ) → p * r + b ≤ a + q * r → a + q * r < (p + 1) * r + b → Floors (sub_ℕ a b) r (sub_ℕ p q)
floors_sub a b r p q h k =
    record {
      below = rw (sub_times p q r) (sub_le (p * r) (q * r) a b h);
      above = rw (one_more p q r) (sub_below a b ((p + 1) * r) (q * r) k);
    }

sub_floors :
    (a b c d r p q s t : ℕ) → a + d ≤ c + b → Floors (sub_ℕ a b) r (sub_ℕ p q) → Floors (sub_ℕ c d) r (sub_ℕ s t) → p + t ≤ s + q
sub_floors a b c d r p q s t e f g =
    let h = le_sub (p * r) (q * r) a b (rw (sub_times p q r) at f.below) in
    let k = below_sub c d ((s + 1) * r) (t * r) (rw (one_more s t r) at g.above) in
    let l : p + t < s + 1 + q = lt_of_mul-lt-mul_right r (omega (arith, add-mul p t r, add-mul (s + 1) q r)) in
    omega arith

-- ---- floor_z

floor_at : (a r : ℕ) → floor_z (pos a) r ≡ sub_ℕ (a / r) 0
unfolding floor_z
floor_at a r = from_pos (a / r)

floor_under : (a r : ℕ) → floor_z (negsuc a) r ≡ sub_ℕ 0 (suc (a / r))
unfolding floor_z
floor_under a r = from_negsuc (a / r)

-- It is z / r rounded down.
pub floor_floors : (z : ℤ) (r : ℕ) → 0 < r → Floors z r (floor_z z r)
floor_floors (pos a) r h =
    let l = div-mul-le_self a r in
    let m : a < a / r * r + r = lt-div-mul-add h in
    rw (floor_at a r, from_pos a) (floors_sub a 0 r (a / r) 0 (omega arith) (omega (arith, add-mul (a / r) 1 r)))
floor_floors (negsuc a) r h =
    let l = div-mul-le_self a r in
    let m : a < a / r * r + r = lt-div-mul-add h in
    let s = suc-mul (a / r) r in
    rw (floor_under a r, from_negsuc a) (floors_sub 0 (suc a) r 0 (suc (a / r)) (omega arith) (omega arith))

-- Of a smaller number it is no larger ..
floors_rise : (y z : ℤ) (r : ℕ) (p q : ℤ) → y ≤ℤ z → Floors y r p → Floors z r q → p ≤ℤ q
floors_rise y z r p q e f g =
    let v = difference y in
    let w = difference z in
    let x = difference p in
    let u = difference q in
    rw (x.is, u.is)
    (sub_le x.plus x.minus u.plus u.minus
    (sub_floors v.plus v.minus w.plus w.minus r x.plus x.minus u.plus u.minus
    (le_sub v.plus v.minus w.plus w.minus (rw (v.is, w.is) at e)) (rw (v.is, x.is) at f) (rw (w.is, u.is) at g)))

-- .. so there is one.
pub floors_once : (z : ℤ) (r : ℕ) (p q : ℤ) → 0 < r → Floors z r p → Floors z r q → p ≡ q
floors_once z r p q h f g = ≤ℤ-antisymm p q (floors_rise z z r p q (≤ℤ_refl z) f g) (floors_rise z z r q p (≤ℤ_refl z) g f)

-- By one divisor it grows with the number that is divided, below zero too.
pub floor_rises : (y z : ℤ) (r : ℕ) → 0 < r → y ≤ℤ z → floor_z y r ≤ℤ floor_z z r
floor_rises y z r h e = floors_rise y z r (floor_z y r) (floor_z z r) e (floor_floors y r h) (floor_floors z r h)

floor_ge : (a b r : ℕ) → b ≤ a → floor_z (sub_ℕ a b) r ≡ pos ((a - b) / r)
unfolding floor_z
floor_ge a b r h = rw (sub_ge a b h)

-- Where it is 0 or more, so is what is divided.
pub floor_sign : (a b r : ℕ) → pos 0 ≤ℤ floor_z (sub_ℕ a b) r → b ≤ a
unfolding floor_z
floor_sign a b r h = elim (dec_le b a) [
  | yes l ↦ l
  | no l ↦ absurd (rw (sub_lt a b (omega arith)) at h).le
]

-- From k times the divisor up it is k at least: whole microseconds lose nothing.
pub floor_from : (k a b r : ℕ) → 0 < r → k * r + b ≤ a → pos k ≤ℤ floor_z (sub_ℕ a b) r
floor_from k a b r h g =
    rw (floor_ge a b r (omega arith)) (le_z_yes (le→leb k ((a - b) / r) ((le-div_iff_mul-le h).1 (omega arith))))

-- Of a number that is not below zero: no less than of a smaller one by a larger divisor.
pub floor_grows :
    (a b c d r q : ℕ) → 0 < q → q ≤ r → d ≤ c → a + d ≤ c + b → floor_z (sub_ℕ a b) r ≤ℤ floor_z (sub_ℕ c d) q
floor_grows a b c d r q h k g l = elim (dec_le b a) [
  | yes f ↦
      let m = div-mul-le_self (a - b) r in
      let n : (a - b) / r * q ≤ (a - b) / r * r = mul-le-mul_left ((a - b) / r) k in
      rw (floor_ge a b r f) (floor_from ((a - b) / r) c d q h (omega arith))
  | no f ↦
      rw (sub_lt a b (omega arith), floor_under (b - suc a) r, floor_ge c d q g, from_pos ((c - d) / q))
      (sub_le 0 (suc ((b - suc a) / r)) ((c - d) / q) 0 (omega arith))
]
