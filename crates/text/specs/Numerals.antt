-- What makes bytes the decimal of a number: nothing but digits, which spell it, and no 0 in front. `decimal` gives it
-- (proofs/Numerals.antt).
use Rattle.std.specs.Prelude.{ℕ, ◌+◌, ◌*◌, ◌-◌, ◌≤◌, ◌<◌, ◌≡◌, List, [], ◌∷◌, length, get_or}
use Rattle.show.specs.Limits.{Between}

-- the number that digits spell, behind those that spell n
unfoldable pub spelled : ℕ → List ℕ → ℕ
spelled n [] = n
spelled n (d ∷ l) = spelled (10 * n + (d - 48)) l

pub record Numeral (n : ℕ) (l : List ℕ) : Type 0 where
  pub digit : (i : ℕ) → i < length l → Between 48 (get_or l i 0) 57
  pub spells : spelled 0 l ≡ n
  pub front : 1 ≤ n → 49 ≤ get_or l 0 0
  pub zero : n ≡ 0 → l ≡ 48 ∷ []
