-- The four numbers of a record of sixteen bytes, in the order of docs/RULES.md, section 6.
use Rattle.std.specs.Prelude.{ℕ, ◌≡◌, ◌<◌, List, [], ◌∷◌, length, drop, get_or}
use Rattle.showfile.specs.Bytes.{word_of, four_bytes}

-- the four numbers that a list of bytes begins with
abbrev pub words_of : List ℕ → List ℕ
words_of s = word_of s ∷ word_of (drop 4 s) ∷ word_of (drop 8 s) ∷ word_of (drop 12 s) ∷ []

-- the bytes of four numbers
abbrev pub bytes_of : List ℕ → List ℕ
bytes_of words = four_bytes (get_or words 0 0) (get_or words 1 0) (get_or words 2 0) (get_or words 3 0)

-- four numbers of 32 bits, as those of a record are
pub record Words (w : List ℕ) : Type 0 where
  pub four : length w ≡ 4
  pub small : (i : ℕ) → get_or w i 0 < 4294967296
