-- Small texts, worked out: the definitions of specs/ computed. Assumes nothing.
use mathlib.Core.Path.{◌≡◌, refl}
use mathlib.Core.List.{[], ◌∷◌}
use native.Mathlib.Decide.{dec_lt, dec_le, ℕ_discrete}
use Rattle.text.specs.Ascii.{ascii}
use Rattle.text.specs.Decimal.{digits, decimal}
use Rattle.text_forms.specs.Forms.{next_text, form_text}
use Rattle.text_forms.specs.Hex.{hex_digit, pairs_text, hex_text}

pub record Table : Type 0 where
  pub form : form_text (ascii "take # of #\n") (3 ∷ 120 ∷ []) ≡ ascii "take 3 of 120\n"
  pub used_up : form_text (ascii "# # #") (0 ∷ 7 ∷ []) ≡ ascii "0 7 "
  pub left_over : form_text (ascii "none") (7 ∷ []) ≡ ascii "none"
  pub hex : hex_text (0 ∷ 10 ∷ 255 ∷ []) ≡ ascii "000aff"
  pub no_bytes : hex_text [] ≡ ascii "-"

pub table : Table
unfolding digits decimal next_text form_text hex_digit pairs_text hex_text dec_lt dec_le ℕ_discrete
table =
    record {
      form = refl;
      used_up = refl;
      left_over = refl;
      hex = refl;
      no_bytes = refl;
    }
