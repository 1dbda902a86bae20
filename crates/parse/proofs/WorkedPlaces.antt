-- Words among two names, worked out: the definition of specs/Places computed. Assumes nothing.
use Prim.Native.Nat.{ℕ, zero, suc, ◌<◌}
use mathlib.Core.Path.{◌≡◌, refl, ap}
use mathlib.Core.List.{List}
use native.Mathlib.Decide.{ℕ_discrete}
use native.Mathlib.Omega.{arith}
use lib.ListN.{get_or}
use Rattle.parse.specs.Parts.{find_of, parts_of, rest_of, part_of}
use Rattle.parse.specs.Places.{PlaceIs}
use Rattle.parse.proofs.WorkedParts.{text}

pub record Table : Type 0 where
  pub first : PlaceIs (text "put take") (text "put") 0
  pub second : PlaceIs (text "put take") (text "take") 1
  pub neither : PlaceIs (text "put take") (text "give") 2

-- neither name begins as the word does
not_there : (k : ℕ) → k < 2 → part_of 32 k (text "put take") ≡ text "give" → ⊥
unfolding find_of rest_of part_of ℕ_discrete
not_there zero l e = let b = ap (λ (t : List ℕ). get_or t 0 0) e in omega arith
not_there (suc zero) l e = let b = ap (λ (t : List ℕ). get_or t 0 0) e in omega arith
not_there (suc (suc k)) l e = let z : ⊥ = omega arith in z

not_first : (k : ℕ) → k < 1 → part_of 32 k (text "put take") ≡ text "take" → ⊥
unfolding find_of rest_of part_of ℕ_discrete
not_first zero l e = let b = ap (λ (t : List ℕ). get_or t 0 0) e in omega arith
not_first (suc k) l e = let z : ⊥ = omega arith in z

pub table : Table
unfolding find_of parts_of rest_of part_of ℕ_discrete
table =
    record {
      first = record { within = omega arith; before = λ k l. absurd (let z : ⊥ = omega arith in z); found = λ l. refl };
      second = record { within = omega arith; before = not_first; found = λ l. refl };
      neither = record { within = omega arith; before = not_there; found = λ l. absurd (let z : ⊥ = omega arith in z) };
    }
