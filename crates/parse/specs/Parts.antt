-- The parts of a text, with a mark between two of them.
use Rattle.std.specs.Prelude.{ℕ, zero, suc, ◌+◌, List, [], ◌∷◌, take, drop}
use Rattle.std.proofs.Math.Logic.{ite}
use Rattle.std.proofs.Math.Decide.{ℕ_discrete}

-- where the mark stands first; the length where it does not
unfoldable pub find_of : ℕ → List ℕ → ℕ
find_of mark [] = 0
find_of mark (b ∷ text) = ite (ℕ_discrete b mark) 0 (suc (find_of mark text))

-- one more than there are marks
unfoldable pub parts_of : ℕ → List ℕ → ℕ
parts_of mark [] = 1
parts_of mark (b ∷ text) = ite (ℕ_discrete b mark) (suc (parts_of mark text)) (parts_of mark text)

-- what follows the first mark; nothing where there is none
unfoldable pub rest_of : ℕ → List ℕ → List ℕ
rest_of mark text = drop (find_of mark text + 1) text

-- part k, counted from 0: the first goes up to the first mark, the others are parts of what follows it
unfoldable pub part_of : ℕ → ℕ → List ℕ → List ℕ
part_of mark zero text = take (find_of mark text) text
part_of mark (suc k) text = part_of mark k (rest_of mark text)
