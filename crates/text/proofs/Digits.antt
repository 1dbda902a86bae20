-- Laws of a number's digits. Assumes nothing.
use mathlib.Core.Path.{◌≡◌, refl, sym, ap, ◌∙◌, subst}
use mathlib.Core.Logic.{if_pos, if_neg}
use mathlib.Core.List.{List, [], ◌∷◌, ◌++◌}
use Prim.Native.Nat.{ℕ, zero, suc, ◌+◌, ◌/◌, ◌%◌, ◌<◌, ◌≤◌, ◌^◌}
use native.Mathlib.Nat.{pow-suc, div-lt_iff_lt-mul}
use native.Mathlib.Decide.{dec_lt}
use native.Mathlib.Omega.{arith}
use lib.ListN.{length, length-append}
use lib.Dec.{lit<}
use Rattle.text.specs.Decimal.{digits, decimal}

digits_none : (n : ℕ) → digits 0 n ≡ []
unfolding digits
digits_none n = refl

pub digits_last : (f n : ℕ) → n < 10 → digits (suc f) n ≡ (48 + n) ∷ []
unfolding digits
digits_last f n h = if_pos (dec_lt n 10) h _ _

pub digits_more : (f n : ℕ) → (n < 10 → ⊥) → digits (suc f) n ≡ digits f (n / 10) ++ ((48 + n % 10) ∷ [])
unfolding digits
digits_more f n h = if_neg (dec_lt n 10) h _ _

pub tenth : (k n : ℕ) → n < 10 ^ suc k → n / 10 < 10 ^ k
tenth k n h = (div-lt_iff_lt-mul (lit< tt)).1 (subst (λ (x : ℕ). n < x) (pow-suc 10 k) h)

digits_most : (f n : ℕ) → length (digits f n) ≤ f
digits_most zero n = omega (arith, ap length (digits_none n))
digits_most (suc f) n = from (digits_most f (n / 10)) (dec_lt n 10)
  where
    from : length (digits f (n / 10)) ≤ f → Dec (n < 10) → length (digits (suc f) n) ≤ suc f
    from i (yes l) = rw (digits_last f n l) (omega arith)
    from i (no l) = rw (digits_more f n l) (simp length-append (omega arith))

-- A number below 10 ^ k has k digits at most, for k of at least 1.
digits_few : (f k n : ℕ) → n < 10 ^ suc k → Dec (n < 10) → length (digits f n) ≤ suc k
unfolding digits
digits_few zero k n h d = omega arith
digits_few (suc f) k n h (yes l) = rw (digits_last f n l) (omega arith)
digits_few (suc f) zero n h (no l) = absurd (l h)
digits_few (suc f) (suc k) n h (no l) =
    let i = digits_few f k (n / 10) (tenth (suc k) n h) (dec_lt (n / 10) 10) in rw (digits_more f n l) (simp length-append (omega arith))

-- Where k digits are enough, so is one more.
digits_enough : (k n : ℕ) → n < 10 ^ suc k → digits (suc k) n ≡ digits (suc (suc k)) n
digits_enough zero n h = digits_last 0 n h ∙ sym (digits_last 1 n h)
digits_enough (suc k) n h = from (digits_enough k (n / 10) (tenth (suc k) n h)) (dec_lt n 10)
  where
    from : digits (suc k) (n / 10) ≡ digits (suc (suc k)) (n / 10) → Dec (n < 10) → digits (suc (suc k)) n ≡ digits (suc (suc (suc k))) n
    from i (yes l) = digits_last (suc k) n l ∙ sym (digits_last (suc (suc k)) n l)
    from i (no l) =
        digits_more (suc k) n l ∙ ap (λ (x : List ℕ). x ++ ((48 + n % 10) ∷ [])) i ∙ sym (digits_more (suc (suc k)) n l)

pub decimal_last : (n : ℕ) → n < 10 → decimal n ≡ (48 + n) ∷ []
unfolding decimal
decimal_last n h = digits_last 19 n h

pub decimal_more : (n : ℕ) → n < 2 ^ 64 → 10 ≤ n → decimal n ≡ decimal (n / 10) ++ ((48 + n % 10) ∷ [])
unfolding decimal
decimal_more n b h =
    digits_more 19 n (λ l. (let f : ⊥ = omega arith in f))
    ∙ ap (λ (x : List ℕ). x ++ ((48 + n % 10) ∷ [])) (digits_enough 18 (n / 10) (tenth 19 n (omega arith)))

-- a digit less, of a tenth
pub one_less : (n : ℕ) → n < 2 ^ 64 → 10 ≤ n → length (decimal n) ≡ length (decimal (n / 10)) + 1
one_less n b h = ap length (decimal_more n b h) ∙ length-append (decimal (n / 10)) ((48 + n % 10) ∷ [])

pub decimal_least : (n : ℕ) → 1 ≤ length (decimal n)
unfolding decimal
decimal_least n = from (dec_lt n 10)
  where
    from : Dec (n < 10) → 1 ≤ length (digits 20 n)
    from (yes l) = rw (digits_last 19 n l) (omega arith)
    from (no l) = rw (digits_more 19 n l) (simp length-append (omega arith))

pub decimal_few : (k n : ℕ) → n < 10 ^ suc k → length (decimal n) ≤ suc k
unfolding decimal
decimal_few k n h = digits_few 20 k n h (dec_lt n 10)

pub decimal_most : (n : ℕ) → length (decimal n) ≤ 20
unfolding decimal
decimal_most n = digits_most 20 n
