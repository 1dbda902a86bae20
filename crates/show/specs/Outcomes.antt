-- What an answer comes to in numbers: docs/RULES.md, section 4. Each answer that is an enum has a definition of this kind beside it.
use Rattle.std.specs.Prelude.{ℕ, List, [], ℤ, Ok, Err, Result}
use Rattle.show.specs.declared.refusal.Refusal.{Refusal}
use Rattle.show.specs.Refusals.{number_of, place_of}

-- What a test answers: nothing to say against it, or a refusal.
abbrev pub Check : Type 0
Check = Result (Unit {0}) Refusal

-- The number of a refusal, 0 where nothing is refused; its place; and the values that are answered, none with a refusal.
pub record Outcome : Type 0 where
  pub number : ℕ
  pub place : ℕ
  pub values : List ℤ

abbrev pub granted : List ℤ → Outcome
granted l = record { number = 0; place = 0; values = l }

abbrev pub refused_by : Refusal → Outcome
refused_by w = record { number = number_of w; place = place_of w; values = [] }

abbrev pub check_outcome : Check → Outcome
check_outcome (Ok tt) = granted []
check_outcome (Err w) = refused_by w
