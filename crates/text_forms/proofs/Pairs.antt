-- Laws of bytes in hex: one digit, and one byte more. Assumes nothing.
use mathlib.Core.Path.{◌≡◌, refl, ap}
use mathlib.Core.Logic.{if_pos, if_neg}
use mathlib.Core.List.{List, [], ◌∷◌, ◌++◌}
use Prim.Native.Nat.{ℕ, ◌+◌, ◌-◌, ◌≤◌, ◌<◌}
use native.Mathlib.Decide.{dec_lt}
use native.Mathlib.Omega.{arith}
use lib.ListN.{length, get_or, drop, drop_of_length-le}
use Rattle.std.proofs.lemmas.List.{drop_more}
use Rattle.text_forms.specs.Hex.{hex_digit, pair_text, pairs_text, hex_text}

pub digit_low : (d : ℕ) → d < 10 → hex_digit d ≡ 48 + d
unfolding hex_digit
digit_low d h = if_pos (dec_lt d 10) h _ _

pub digit_high : (d : ℕ) → 10 ≤ d → hex_digit d ≡ 97 + (d - 10)
unfolding hex_digit
digit_high d h = if_neg (dec_lt d 10) (λ l. (let z : ⊥ = omega arith in z)) _ _

pub ruleset digit_cases = (digit_low, digit_high)

pub pairs_length : (bytes : List ℕ) → length (pairs_text bytes) ≡ length bytes + length bytes
unfolding pairs_text
pairs_length [] = refl
pairs_length (b ∷ bytes) = let e = pairs_length bytes in omega arith

-- bytes, where there are some
pub hex_some : (bytes : List ℕ) → 1 ≤ length bytes → hex_text bytes ≡ pairs_text bytes
unfolding hex_text
hex_some [] h = absurd (let z : ⊥ = omega arith in z)
hex_some (b ∷ bytes) h = refl

pub hex_none : (bytes : List ℕ) → length bytes ≡ 0 → hex_text bytes ≡ 45 ∷ []
unfolding hex_text
hex_none [] h = refl
hex_none (b ∷ bytes) h = absurd (let z : ⊥ = omega arith in z)

-- a loop stands at byte i
pub pairs_more :
    (bytes : List ℕ) (i : ℕ) → i < length bytes → pairs_text (drop i bytes) ≡ pair_text (get_or bytes i 0) ++ pairs_text (drop (i + 1) bytes)
unfolding pairs_text
pairs_more bytes i h = ap pairs_text (drop_more bytes i 0 h)

pub pairs_end : (bytes : List ℕ) (i : ℕ) → length bytes ≤ i → pairs_text (drop i bytes) ≡ []
unfolding pairs_text
pairs_end bytes i h = ap pairs_text (drop_of_length-le bytes h)
