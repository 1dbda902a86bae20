-- Bytes as text, in hex.
use Rattle.std.specs.Prelude.{ℕ, ◌+◌, ◌-◌, ◌/◌, ◌%◌, List, [], ◌∷◌, ◌++◌}
use Rattle.std.proofs.Math.Logic.{ite}
use Rattle.std.proofs.Math.Decide.{dec_lt}
use Rattle.text.specs.Ascii.{ascii}

-- a small digit: 48 is 0, 97 is a
unfoldable pub hex_digit : ℕ → ℕ
hex_digit d = ite (dec_lt d 10) (48 + d) (97 + (d - 10))

-- two digits a byte, the higher first
abbrev pub pair_text : ℕ → List ℕ
pair_text b = hex_digit (b / 16) ∷ hex_digit (b % 16) ∷ []

unfoldable pub pairs_text : List ℕ → List ℕ
pairs_text [] = []
pairs_text (b ∷ bytes) = pair_text b ++ pairs_text bytes

-- a dash for none
unfoldable pub hex_text : List ℕ → List ℕ
hex_text [] = ascii "-"
hex_text (b ∷ bytes) = pairs_text (b ∷ bytes)
