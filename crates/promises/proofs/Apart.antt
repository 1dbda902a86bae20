-- What tells two answers apart: a number that differs. Assumes nothing.
use Prim.Native.Nat.{ℕ}
use mathlib.Core.Path.{◌≡◌, ap, subst}
use mathlib.Core.Bool.{not}
use lib.Dec.{T, T_not, eqb, eqb_refl}
use Rattle.show.specs.Outcomes.{Check}
use Rattle.show.specs.Outcomes.{Outcome, check_outcome}

-- Two that come to different numbers are not the same.
pub apart : {A : Type 0} (f : A → ℕ) {x y : A} → x ≡ y → T (not (eqb (f x) (f y))) → ⊥
apart f {x} {y} e t = T_not (eqb (f x) (f y)) t (subst (λ (n : ℕ). T (eqb (f x) n)) (ap f e) (eqb_refl (f x)))

-- the same of two numbers
pub other : {x y : ℕ} → x ≡ y → T (not (eqb x y)) → ⊥
other e t = apart (λ n. n) e t

-- the number of an outcome, and of a check: 0 where nothing is refused
abbrev pub outcome_number : Outcome → ℕ
outcome_number o = o.number

abbrev pub check_number : Check → ℕ
check_number c = (check_outcome c).number
