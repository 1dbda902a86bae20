-- The place of a word among names that have one space between, which is 32.
use Rattle.std.specs.Prelude.{ℕ, ◌≤◌, ◌<◌, ◌≡◌, List}
use Rattle.parse.specs.Parts.{parts_of, part_of}

-- the first name that is the word, counted from 0; how many names there are, where it is none of them
pub record PlaceIs (names word : List ℕ) (r : ℕ) : Type 0 where
  pub within : r ≤ parts_of 32 names
  pub before : (k : ℕ) → k < r → part_of 32 k names ≡ word → ⊥
  pub found : r < parts_of 32 names → part_of 32 r names ≡ word
