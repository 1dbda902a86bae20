-- Small texts, worked out: the definitions of specs/ computed. Assumes nothing.
use Prim.Native.Nat.{ℕ}
use Prim.Native.Char.{code}
use Prim.Native.String as string
use mathlib.Core.Path.{◌≡◌, refl}
use mathlib.Core.List.{List, [], ◌∷◌}
use native.Mathlib.Decide.{ℕ_discrete}
use Rattle.parse.specs.Parts.{find_of, parts_of, rest_of, part_of}

abbrev pub text : string.String → List ℕ
text string.[] = []
text (string.◌∷◌ c s) = code c ∷ text s

pub record Table : Type 0 where
  pub first : find_of 32 (text "put 3") ≡ 3
  pub nowhere : find_of 32 (text "put") ≡ 3
  pub counted : parts_of 32 (text "put  3") ≡ 3
  pub second : part_of 32 1 (text "put 3") ≡ text "3"
  pub between : part_of 32 1 (text "put  3") ≡ []
  pub beyond : part_of 32 2 (text "put 3") ≡ []

pub table : Table
unfolding find_of parts_of rest_of part_of ℕ_discrete
table =
    record {
      first = refl;
      nowhere = refl;
      counted = refl;
      second = refl;
      between = refl;
      beyond = refl;
    }
