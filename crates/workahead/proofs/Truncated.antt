-- Division toward zero, one less where the remainder is below zero, is division rounded down; it fits 64 bits. Assumes nothing.
use Prim.Native.Nat.{ℕ, zero, suc, ◌+◌, ◌*◌, ◌/◌, ◌%◌, ◌^◌, ◌≤◌, ◌<◌}
use mathlib.Core.Path.{◌≡◌, refl, sym, ap, subst, ◌∙◌}
use mathlib.Core.Bool.{true, false}
use native.Mathlib.Nat.{zero-mul, add-zero, suc-mul, mod-lt, mod-add-div', div-eq_of_lt-le, div-le_self, lt_of_le_of_lt}
use native.Mathlib.Numerals.{add-one}
use native.Mathlib.Omega.{arith}
use borrow.Author.Tests.{ltb-true}
use lib.IntN.{ℤ, pos, negsuc, neg_ℤ, ◌-ℤ◌}
use lib.Signed.{mag, mag_rem, quot_z, rem_z, lt_z}
use mir.Syntax.{w64}
use mir.Val.{SFits, to_z}
use mir.Facts.{to_z_pos}
use Rattle.theory.specs.Floor.{floor_z}

-- a number of 32 bits, read as signed
pub small : {r : ℕ} → r < 2 ^ 32 → to_z w64 r ≡ pos r
small h = to_z_pos w64 (omega arith)

-- ---- what fits

mag_neg : (q a : ℕ) → q ≤ suc a → mag (neg_ℤ (pos q)) ≤ a
mag_neg zero a h = omega arith
mag_neg (suc q) a h = omega arith

pub quot_fits : (z : ℤ) (r : ℕ) → SFits w64 z → SFits w64 (quot_z z (pos r))
quot_fits (pos a) r f = record { sfits = lt_of_le_of_lt (div-le_self a r) f.sfits }
quot_fits (negsuc a) r f = record { sfits = lt_of_le_of_lt (mag_neg (suc a / r) a (div-le_self (suc a) r)) f.sfits }

pub rem_fits : (z : ℤ) (r : ℕ) → SFits w64 z → SFits w64 (rem_z z (pos r))
rem_fits z r f = record { sfits = lt_of_le_of_lt (mag_rem z (pos r)) f.sfits }

pub floor_most : (z : ℤ) (r : ℕ) → mag (floor_z z r) ≤ mag z
unfolding floor_z
floor_most (pos a) r = div-le_self a r
floor_most (negsuc a) r = div-le_self a r

pub floor_fits : (z : ℤ) (r : ℕ) → SFits w64 z → SFits w64 (floor_z z r)
floor_fits z r f = record { sfits = lt_of_le_of_lt (floor_most z r) f.sfits }

-- ---- toward zero, and corrected

next_same : (a r : ℕ) → 0 < r → 0 < suc a % r → a / r ≡ suc a / r
next_same a r p h =
    let e : suc a % r + suc a / r * r ≡ suc a = mod-add-div' (suc a) r in
    let l : suc a % r < r = mod-lt (suc a) p in
    div-eq_of_lt-le r (omega arith)
    (subst (λ (x : ℕ). a < x * r) (sym (add-one (suc a / r))) (subst (λ (x : ℕ). a < x) (sym (suc-mul (suc a / r) r)) (omega arith)))

next_more : (a r : ℕ) → 0 < r → suc a % r ≡ 0 → suc (a / r) ≡ suc a / r
next_more a r p h = go (suc a / r) (mod-add-div' (suc a) r)
  where
    go : (q : ℕ) → suc a % r + q * r ≡ suc a → suc (a / r) ≡ q
    go zero e = let z : zero * r ≡ 0 = zero-mul r in let no : ⊥ = omega arith in absurd no
    go (suc q) e =
        let m : suc q * r ≡ q * r + r = suc-mul q r in
        ap suc (div-eq_of_lt-le r (omega arith) (subst (λ (x : ℕ). a < x * r) (sym (add-one q)) (omega arith)))

minus_one : (q : ℕ) → neg_ℤ (pos q) -ℤ pos 1 ≡ negsuc q
minus_one zero = refl
minus_one (suc q) = ap (λ (x : ℕ). negsuc (suc x)) (add-zero q)

below_zero : (m : ℕ) → lt_z (neg_ℤ (pos m)) (pos 0) ≡ true → 0 < m
below_zero zero h = ltb-true 0 0 h
below_zero (suc m) h = omega arith

not_below : (m : ℕ) → lt_z (neg_ℤ (pos m)) (pos 0) ≡ false → m ≡ 0
not_below zero h = refl
not_below (suc m) h = cc

pub truncated_low : (z : ℤ) (r : ℕ) → 0 < r → lt_z (rem_z z (pos r)) (pos 0) ≡ true → quot_z z (pos r) -ℤ pos 1 ≡ floor_z z r
unfolding floor_z
truncated_low (pos a) r p h = let l : a % r < 0 = ltb-true (a % r) 0 h in let no : ⊥ = omega arith in absurd no
truncated_low (negsuc a) r p h =
    ap (λ (q : ℕ). neg_ℤ (pos q) -ℤ pos 1) (sym (next_same a r p (below_zero (suc a % r) h))) ∙ minus_one (a / r)

pub truncated_even : (z : ℤ) (r : ℕ) → 0 < r → lt_z (rem_z z (pos r)) (pos 0) ≡ false → quot_z z (pos r) ≡ floor_z z r
unfolding floor_z
truncated_even (pos a) r p h = refl
truncated_even (negsuc a) r p h = ap (λ (q : ℕ). neg_ℤ (pos q)) (sym (next_more a r p (not_below (suc a % r) h)))
