-- The number that a text spells.
use Rattle.std.specs.Prelude.{ℕ, ◌+◌, ◌*◌, ◌-◌, ◌^◌, List, [], ◌∷◌, Some, None, Option}
use Rattle.std.proofs.Math.Logic.{ite}
use Rattle.std.proofs.Math.Decide.{dec_lt}

-- a byte from `least` to `most` counts on from `first`; any other is what else it may be
unfoldable pub counted_of : ℕ → ℕ → ℕ → ℕ → Option ℕ → Option ℕ
counted_of least most first b other = ite (dec_lt b least) other (ite (dec_lt most b) other (Some (b - least + first)))

-- a digit: 48 is 0, 57 is 9
abbrev pub digit_of : ℕ → Option ℕ
digit_of b = counted_of 48 57 0 b None

-- a number with one digit more
unfoldable pub longer_by : ℕ → Option ℕ → Option ℕ → Option ℕ
longer_by base (Some n) (Some d) = Some (base * n + d)
longer_by base (Some n) None = None
longer_by base None d = None

-- the number that digits spell, behind those that spell n; none where a byte is no digit
unfoldable pub spelled : Option ℕ → List ℕ → Option ℕ
spelled n [] = n
spelled n (b ∷ text) = spelled (longer_by 10 n (digit_of b)) text

-- a number of 64 bits, or none
unfoldable pub fitting : Option ℕ → Option ℕ
fitting (Some n) = ite (dec_lt n (2 ^ 64)) (Some n) None
fitting None = None

-- one digit at least, and what they spell is below 2^64
unfoldable pub decimal_of : List ℕ → Option ℕ
decimal_of [] = None
decimal_of (b ∷ text) = fitting (spelled (Some 0) (b ∷ text))
