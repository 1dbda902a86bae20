-- The bytes that a text spells in hex, and a buffer that they are put into.
use Rattle.std.specs.Prelude.{ℕ, List, [], ◌∷◌, ◌++◌, length, take, drop, Some, None, Option}
use Rattle.parse_numbers.specs.Numbers.{counted_of, longer_by}

-- bytes, or none
abbrev pub Bytes : Type 0
Bytes = Option (List ℕ)

-- a digit of hex, of either case: 48 is 0, 97 is a, 65 is A
abbrev pub hex_of : ℕ → Option ℕ
hex_of b = counted_of 48 57 0 b (counted_of 97 102 10 b (counted_of 65 70 10 b None))

-- the byte of two digits, the higher first
abbrev pub byte_of : ℕ → ℕ → Option ℕ
byte_of high low = longer_by 16 (hex_of high) (hex_of low)

-- one byte more, in front
unfoldable pub joined : Option ℕ → Bytes → Bytes
joined (Some b) (Some l) = Some (b ∷ l)
joined (Some b) None = None
joined None l = None

-- two digits a byte, and nothing else
unfoldable pub pairs_of : List ℕ → Bytes
pairs_of [] = Some []
pairs_of (high ∷ []) = None
pairs_of (high ∷ low ∷ text) = joined (byte_of high low) (pairs_of text)

-- one byte at least
unfoldable pub bytes_of : List ℕ → Bytes
bytes_of [] = None
bytes_of (high ∷ text) = pairs_of (high ∷ text)

-- how many
unfoldable pub count_of : Bytes → Option ℕ
count_of (Some l) = Some (length l)
count_of None = None

-- a buffer with the bytes over its first ones: as many as there are, or as it has room for
unfoldable pub put_of : Bytes → List ℕ → List ℕ
put_of (Some l) out = take (length out) l ++ drop (length l) out
put_of None out = out
