-- What the report prints of a number is read back as that number. Assumes nothing.
use Rattle.std.specs.Prelude.{Some}
use Prim.Native.Nat.{ℕ, zero, suc, ◌+◌, ◌*◌, ◌/◌, ◌%◌, ◌^◌, ◌<◌}
use mathlib.Core.Path.{◌≡◌, sym, ap, ◌∙◌}
use native.Mathlib.Nat.{mod-lt}
use native.Mathlib.Decide.{dec_lt}
use native.Mathlib.Omega.{arith}
use lib.Dec.{lit<}
use Rattle.text.specs.Decimal.{decimal}
use Rattle.text.proofs.Digits.{decimal_last, decimal_more}
use Rattle.parse_numbers.specs.Numbers.{decimal_of}
use Rattle.parse_numbers.proofs.NumberLaws.{digit_is, number_one, number_more}
use Rattle.parse_numbers.proofs.Values.{longer_fits}

-- by induction on a number above it
below : (m n : ℕ) → n < m → n < 2 ^ 64 → decimal_of (decimal n) ≡ Some n
below zero n l h = absurd (let f : ⊥ = omega arith in f)
below (suc m) n l h = from (dec_lt n 10) (below m (n / 10))
  where
    from : Dec (n < 10) → (n / 10 < m → n / 10 < 2 ^ 64 → decimal_of (decimal (n / 10)) ≡ Some (n / 10)) → decimal_of (decimal n) ≡ Some n
    from (yes s) i = rw (decimal_last n s) (number_one n s)
    from (no s) i =
        let q : n % 10 < 10 = mod-lt n {m = 10} (lit< tt) in
        let e : 10 * (n / 10) + n % 10 ≡ n = omega arith in
        rw (decimal_more n h (omega arith))
        (number_more (decimal (n / 10)) (n / 10) (48 + n % 10) (i (omega arith) (omega arith))
        ∙ sym (longer_fits (n / 10) _ (n % 10) (digit_is (n % 10) q) (omega arith))
        ∙ ap Some e)

pub read_back : (n : ℕ) → n < 2 ^ 64 → decimal_of (decimal n) ≡ Some n
read_back n h = below (suc n) n (omega arith) h
