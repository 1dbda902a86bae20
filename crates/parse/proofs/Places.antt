-- A word has one place among names. Assumes nothing.
use Prim.Native.Nat.{ℕ, ◌<◌}
use mathlib.Core.Path.{◌≡◌}
use mathlib.Core.List.{List}
use native.Mathlib.Decide.{dec_lt}
use native.Mathlib.Omega.{arith}
use Rattle.parse.specs.Places.{PlaceIs}

-- no answer is before another: it would be found there
not_before : (names word : List ℕ) (r s : ℕ) → PlaceIs names word r → PlaceIs names word s → r < s → ⊥
not_before names word r s p q l = q.before r l (p.found (let w = q.within in omega arith))

pub place_once : (names word : List ℕ) (r s : ℕ) → PlaceIs names word r → PlaceIs names word s → r ≡ s
place_once names word r s p q = from (dec_lt r s) (dec_lt s r)
  where
    from : Dec (r < s) → Dec (s < r) → r ≡ s
    from (yes l) d = absurd (not_before names word r s p q l)
    from (no l) (yes m) = absurd (not_before names word s r q p m)
    from (no l) (no m) = omega arith
