-- What callers may cite of a number in decimal with one digit more. Assumes nothing.
use Rattle.std.specs.Prelude.{Some, None, Option}
use Prim.Native.Nat.{ℕ, ◌+◌, ◌-◌, ◌<◌}
use mathlib.Core.Path.{◌≡◌, refl, sym, ap, ◌∙◌}
use mathlib.Core.List.{List, [], ◌∷◌, ◌++◌}
use native.Mathlib.Omega.{arith}
use lib.ListN.{length-append}
use Rattle.parse_numbers.specs.Numbers.{digit_of, longer_by, spelled, fitting, decimal_of}
use Rattle.parse_numbers.proofs.Values.{is_not, counted_within, fits, fitting_is, number_some}

-- a digit counts what it stands above 48
pub digit_is : (d : ℕ) → d < 10 → digit_of (48 + d) ≡ Some d
digit_is d h = sym (let e : 48 + d - 48 + 0 ≡ d = omega arith in ap Some (sym e) ∙ counted_within 48 57 0 (48 + d) None (omega arith) (omega arith))

spelled_more : (text : List ℕ) (x : (Option ℕ)) (b : ℕ) → spelled x (text ++ (b ∷ [])) ≡ longer_by 10 (spelled x text) (digit_of b)
unfolding spelled
spelled_more [] x b = refl
spelled_more (a ∷ text) x b = spelled_more text (longer_by 10 x (digit_of a)) b

spelled_is : (text : List ℕ) (n : ℕ) → decimal_of text ≡ Some n → spelled (Some 0) text ≡ Some n
unfolding decimal_of
spelled_is [] n e = is_not (sym e)
spelled_is (a ∷ text) n e = (fitting_is (spelled (Some 0) (a ∷ text)) n e).0

-- one digit alone
pub number_one : (d : ℕ) → d < 10 → decimal_of ((48 + d) ∷ []) ≡ Some d
unfolding decimal_of spelled longer_by
number_one d h = let e : 0 + d ≡ d = omega arith in rw (digit_is d h, e) (sym (fits d (omega arith)))

-- one byte more: ten times the number and the digit, or none where the byte is no digit or that is 2^64 or more
pub number_more : (text : List ℕ) (n b : ℕ) → decimal_of text ≡ Some n → decimal_of (text ++ (b ∷ [])) ≡ fitting (longer_by 10 (Some n) (digit_of b))
number_more text n b e =
    sym (number_some (text ++ (b ∷ [])) (λ z. let f : ⊥ = omega (arith, length-append text (b ∷ [])) in f))
    ∙ ap fitting (spelled_more text (Some 0) b ∙ ap (λ (x : (Option ℕ)). longer_by 10 x (digit_of b)) (spelled_is text n e))
