-- Numbers as bytes, and rows of records of sixteen bytes: docs/RULES.md, section 6. Little endian: the lowest byte comes first.
use Rattle.std.specs.Prelude.{ℕ, zero, suc, ◌+◌, ◌*◌, ◌/◌, ◌%◌, ◌<◌, List, [], ◌∷◌, ◌++◌, length, get_or, take, drop}

-- every element is a byte
abbrev pub Bytes : List ℕ → Type 0
Bytes s = (i : ℕ) → get_or s i 0 < 256

-- the number that the first two bytes of a list spell, and that of the first four
unfoldable pub half_of : List ℕ → ℕ
half_of s = get_or s 0 0 + 256 * get_or s 1 0

unfoldable pub word_of : List ℕ → ℕ
word_of s = get_or s 0 0 + 256 * get_or s 1 0 + 65536 * get_or s 2 0 + 16777216 * get_or s 3 0

-- a number in two bytes, and in four
unfoldable pub half_bytes : ℕ → List ℕ
half_bytes v = v % 256 ∷ v / 256 % 256 ∷ []

unfoldable pub word_bytes : ℕ → List ℕ
word_bytes v = v % 256 ∷ v / 256 % 256 ∷ v / 65536 % 256 ∷ v / 16777216 % 256 ∷ []

-- four numbers, in sixteen bytes
unfoldable pub four_bytes : ℕ → ℕ → ℕ → ℕ → List ℕ
four_bytes a b c d = word_bytes a ++ (word_bytes b ++ (word_bytes c ++ word_bytes d))

-- the n records, of sixteen bytes each, that a list begins with
unfoldable pub row_of : {A : Type 0} → (List ℕ → A) → ℕ → List ℕ → List A
row_of of zero s = []
row_of of (suc n) s = of s ∷ row_of of n (drop 16 s)

-- the bytes of a row of records
unfoldable pub row_bytes : {A : Type 0} → (A → List ℕ) → List A → List ℕ
row_bytes bytes [] = []
row_bytes bytes (a ∷ l) = bytes a ++ row_bytes bytes l

-- b with the bytes vs from `at` on
unfoldable pub over : List ℕ → ℕ → List ℕ → List ℕ
over b at vs = take at b ++ (vs ++ drop (at + length vs) b)
