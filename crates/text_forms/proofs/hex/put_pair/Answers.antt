-- The higher digit, then the lower. Assumes nothing.
use mathlib.Core.Path.{◌≡◌, sym, ap, ◌∙◌}
use mathlib.Core.List.{[], ◌∷◌}
use Prim.Native.Nat.{ℕ, ◌/◌, ◌%◌}
use Rattle.text.proofs.Puts.{answer_as}
use Rattle.text_forms.specs.Hex.{hex_digit, pair_text}
use Rattle.text_forms.proofs.hex.put_pair.Goals as goal

-- the digits that were made are the byte's
made : (b : ℕ) {high low : ℕ} → high ≡ hex_digit (b / 16) → low ≡ hex_digit (b % 16) → high ∷ low ∷ [] ≡ pair_text b
made b {high} {low} e f = ap (λ (x : ℕ). x ∷ low ∷ []) e ∙ ap (λ (x : ℕ). hex_digit (b / 16) ∷ x ∷ []) f

pub returns : goal.returns
returns c =
    answer_as (sym (made c.args.b c.digit-high.ensures c.digit-low.ensures)) c.requires (c.put_word.ensures.out_after, c.put_word.ensures.value)
