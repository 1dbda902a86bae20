-- A form with its numbers, as bytes.
use Rattle.std.specs.Prelude.{ℕ, List, [], ◌∷◌, ◌++◌, drop}
use Rattle.std.proofs.Math.Logic.{ite}
use Rattle.std.proofs.Math.Decide.{ℕ_discrete}
use Rattle.text.specs.Decimal.{decimal}

-- the next number; nothing once they are used up
unfoldable pub next_text : List ℕ → List ℕ
next_text [] = []
next_text (n ∷ numbers) = decimal n

-- each number stands, in order, where the form has a #, which is 35
unfoldable pub form_text : List ℕ → List ℕ → List ℕ
form_text [] numbers = []
form_text (b ∷ form) numbers = ite (ℕ_discrete b 35) (next_text numbers ++ form_text form (drop 1 numbers)) (b ∷ form_text form numbers)

-- ---- for the parts of `put_form`

-- the text of one byte of a form
abbrev pub piece_text : ℕ → List ℕ → List ℕ
piece_text b numbers = form_text (b ∷ []) numbers

-- the numbers that it leaves
unfoldable pub left_after : ℕ → List ℕ → List ℕ
left_after b numbers = ite (ℕ_discrete b 35) (drop 1 numbers) numbers
