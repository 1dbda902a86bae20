-- `decimal` gives a number of 64 bits its decimal. Assumes nothing.
use mathlib.Core.Path.{◌≡◌, refl, ap, ◌∙◌, subst}
use mathlib.Core.List.{List, [], ◌∷◌, ◌++◌}
use Prim.Native.Nat.{ℕ, zero, suc, ◌+◌, ◌*◌, ◌-◌, ◌/◌, ◌%◌, ◌^◌, ◌≤◌, ◌<◌}
use native.Mathlib.Nat.{mod-lt, div-add-mod}
use native.Mathlib.Decide.{dec_lt}
use native.Mathlib.Omega.{arith}
use lib.Dec.{lit<}
use lib.ListN.{length, get_or, length-append, get_or-append}
use lib.Seq.{get_or_at}
use Rattle.show.specs.Limits.{Between}
use Rattle.text.specs.Decimal.{digits, decimal}
use Rattle.text.specs.Numerals.{spelled, Numeral}
use Rattle.text.proofs.Digits.{digits_last, digits_more, tenth}

spelled_more : (l : List ℕ) (n d : ℕ) → spelled n (l ++ (d ∷ [])) ≡ 10 * spelled n l + (d - 48)
unfolding spelled
spelled_more [] n d = refl
spelled_more (e ∷ l) n d = spelled_more l (10 * n + (e - 48)) d

numeral_one : (n : ℕ) → n < 10 → Numeral n ((48 + n) ∷ [])
unfolding spelled
numeral_one n h = record { digit = one; spells = omega arith; front = λ l. omega arith; zero = λ e. ap (λ (k : ℕ). (48 + k) ∷ []) e }
  where
    one : (i : ℕ) → i < 1 → Between 48 (get_or ((48 + n) ∷ []) i 0) 57
    one zero l = omega arith
    one (suc i) l = absurd (let z : ⊥ = omega arith in z)

-- Of ten or more, the last digit stands behind those of a tenth.
numeral_more : (n : ℕ) (l : List ℕ) → 10 ≤ n → Numeral (n / 10) l → Numeral n (l ++ ((48 + n % 10) ∷ []))
numeral_more n l h g =
    record {
      digit = λ i b. each i (subst (λ (k : ℕ). i < k) (length-append l ((48 + n % 10) ∷ [])) b) (dec_lt i (length l));
      spells =
          spelled_more l 0 (48 + n % 10)
          ∙ ap (λ (k : ℕ). 10 * k + (48 + n % 10 - 48)) g.spells
          ∙ omega (arith, div-add-mod n 10);
      front = λ b. first l (g.front (omega (arith, tenths)));
      zero = λ e. absurd (let z : ⊥ = omega arith in z);
    }
  where
    tenths : 1 ≤ n / 10
    tenths = omega (arith, div-add-mod n 10, mod-lt n {m = 10} (lit< tt))

    each : (i : ℕ) → i < length l + 1 → Dec (i < length l) → Between 48 (get_or (l ++ ((48 + n % 10) ∷ [])) i 0) 57
    each i b (yes c) = rw (get_or-append l ((48 + n % 10) ∷ []) 0 i c) (g.digit i c)
    each i b (no c) =
        rw (get_or_at l (48 + n % 10) [] 0 i (omega arith)) (let r = mod-lt n {m = 10} (lit< tt) in omega arith)

    first : (k : List ℕ) → 49 ≤ get_or k 0 0 → 49 ≤ get_or (k ++ ((48 + n % 10) ∷ [])) 0 0
    first [] c = absurd (let z : ⊥ = omega arith in z)
    first (e ∷ k) c = c

digits_numeral : (f n : ℕ) → n < 10 ^ suc f → Numeral n (digits (suc f) n)
digits_numeral zero n h = rw (digits_last 0 n h) (numeral_one n h)
digits_numeral (suc f) n h = from (digits_numeral f (n / 10) (tenth (suc f) n h)) (dec_lt n 10)
  where
    from : Numeral (n / 10) (digits (suc f) (n / 10)) → Dec (n < 10) → Numeral n (digits (suc (suc f)) n)
    from g (yes l) = rw (digits_last (suc f) n l) (numeral_one n l)
    from g (no l) = rw (digits_more (suc f) n l) (numeral_more n (digits (suc f) (n / 10)) (omega arith) g)

pub decimal_numeral : (n : ℕ) → n < 2 ^ 64 → Numeral n (decimal n)
unfolding decimal
decimal_numeral n h = digits_numeral 19 n (omega arith)
