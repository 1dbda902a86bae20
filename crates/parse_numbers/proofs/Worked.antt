-- Small texts, worked out: the definitions of specs/ computed. Assumes nothing.
use Rattle.std.specs.Prelude.{Some, None}
use mathlib.Core.Path.{◌≡◌, refl}
use mathlib.Core.List.{[], ◌∷◌}
use native.Mathlib.Decide.{dec_lt, dec_le}
use Rattle.parse.proofs.WorkedParts.{text}
use Rattle.parse_numbers.specs.Numbers.{counted_of, longer_by, spelled, fitting, decimal_of}
use Rattle.parse_numbers.specs.Bytes.{joined, pairs_of, bytes_of, count_of, put_of}

pub record Table : Type 0 where
  pub digits : decimal_of (text "120") ≡ Some 120
  pub zeros : decimal_of (text "007") ≡ Some 7
  pub largest : decimal_of (text "18446744073709551615") ≡ Some 18446744073709551615
  pub too_large : decimal_of (text "18446744073709551616") ≡ None
  pub no_digit : decimal_of (text "7:") ≡ None
  pub signed : decimal_of (text "+7") ≡ None
  pub letter : decimal_of (text "7a") ≡ None
  pub no_number : decimal_of [] ≡ None
  pub two_bytes : bytes_of (text "fF0a") ≡ Some (255 ∷ 10 ∷ [])
  pub odd : bytes_of (text "fF0") ≡ None
  pub no_hex : bytes_of (text "fg") ≡ None
  pub no_bytes : bytes_of [] ≡ None
  pub counted : count_of (bytes_of (text "fF0a")) ≡ Some 2
  pub short : put_of (bytes_of (text "fF0a")) (1 ∷ []) ≡ 255 ∷ []
  pub long : put_of (bytes_of (text "fF0a")) (1 ∷ 2 ∷ 3 ∷ []) ≡ 255 ∷ 10 ∷ 3 ∷ []
  pub kept : put_of (bytes_of (text "fF0")) (1 ∷ []) ≡ 1 ∷ []

pub table : Table
unfolding counted_of longer_by spelled fitting decimal_of joined pairs_of bytes_of count_of put_of dec_lt dec_le
table =
    record {
      digits = refl;
      zeros = refl;
      largest = refl;
      too_large = refl;
      no_digit = refl;
      signed = refl;
      letter = refl;
      no_number = refl;
      two_bytes = refl;
      odd = refl;
      no_hex = refl;
      no_bytes = refl;
      counted = refl;
      short = refl;
      long = refl;
      kept = refl;
    }
