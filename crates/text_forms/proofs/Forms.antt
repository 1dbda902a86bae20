-- Laws of a form with its numbers: what one byte of it is, and one byte more. Assumes nothing.
use mathlib.Core.Path.{◌≡◌, refl, ap, sym, ◌∙◌}
use mathlib.Core.Logic.{ite, if_pos, if_neg}
use mathlib.Core.List.{List, [], ◌∷◌, ◌++◌, append-nil}
use Prim.Native.Nat.{ℕ, ◌+◌, ◌-◌, ◌≤◌, ◌<◌}
use native.Mathlib.Decide.{ℕ_discrete}
use native.Mathlib.Omega.{arith}
use lib.ListN.{length, get_or, take, drop, length-drop, drop_of_length-le}
use lib.Seq.{take_all}
use Rattle.std.specs.Prelude.{Some, None, slice_get}
use Rattle.std.proofs.lemmas.List.{drop_more}
use Rattle.text.specs.Decimal.{decimal}
use Rattle.text_forms.specs.Forms.{next_text, form_text, piece_text, left_after}

-- ---- one byte

module _ (b : ℕ) (numbers : List ℕ) where
  pub piece_byte : (b ≡ 35 → ⊥) → piece_text b numbers ≡ b ∷ []
  unfolding form_text
  piece_byte h = if_neg (ℕ_discrete b 35) h _ _

  pub piece_next : b ≡ 35 → piece_text b numbers ≡ next_text numbers
  unfolding form_text
  piece_next h = if_pos (ℕ_discrete b 35) h _ _ ∙ append-nil (next_text numbers)

  pub left_mark : b ≡ 35 → take (length numbers - 1) (drop 1 numbers) ≡ left_after b numbers
  unfolding left_after
  left_mark h = take_all (length numbers - 1) (drop 1 numbers) (omega (arith, length-drop 1 numbers)) ∙ sym (if_pos (ℕ_discrete b 35) h _ _)

  pub left_none : length numbers ≡ 0 → numbers ≡ left_after b numbers
  unfolding left_after
  left_none h = from numbers h (ℕ_discrete b 35)
    where
      from : (l : List ℕ) → length l ≡ 0 → (d : Dec (b ≡ 35)) → l ≡ ite d (drop 1 l) l
      from [] h (yes e) = refl
      from [] h (no e) = refl
      from (n ∷ l) h d = absurd (let f : ⊥ = omega arith in f)

  pub left_byte : (b ≡ 35 → ⊥) → numbers ≡ left_after b numbers
  unfolding left_after
  left_byte h = sym (if_neg (ℕ_discrete b 35) h _ _)

  pub size_byte : (b ≡ 35 → ⊥) → length (piece_text b numbers) ≡ 1
  size_byte h = ap length (piece_byte h)

  -- ---- one byte more
  form_then : (form : List ℕ) → form_text (b ∷ form) numbers ≡ piece_text b numbers ++ form_text form (left_after b numbers)
  unfolding form_text left_after
  form_then form = from (ℕ_discrete b 35)
    where
      from :
          (d : Dec (b ≡ 35)) →
          ite d (next_text numbers ++ form_text form (drop 1 numbers)) (b ∷ form_text form numbers)
          ≡ ite d (next_text numbers ++ []) (b ∷ []) ++ form_text form (ite d (drop 1 numbers) numbers)
      from (yes e) = ap (λ (x : List ℕ). x ++ form_text form (drop 1 numbers)) (sym (append-nil (next_text numbers)))
      from (no e) = refl

pub piece_number : (b n : ℕ) (numbers : List ℕ) → b ≡ 35 → slice_get numbers 0 ≡ Some n → piece_text b numbers ≡ decimal n
unfolding next_text
piece_number b n [] h e = absurd cc
piece_number b n (m ∷ numbers) h e = piece_next b (m ∷ numbers) h ∙ ap decimal (let k : m ≡ n = cc in k)

pub piece_none : (b : ℕ) (numbers : List ℕ) → b ≡ 35 → slice_get numbers 0 ≡ None → piece_text b numbers ≡ []
unfolding next_text
piece_none b [] h e = piece_next b [] h
piece_none b (n ∷ numbers) h e = absurd cc

pub size_none : (b : ℕ) (numbers : List ℕ) → b ≡ 35 → slice_get numbers 0 ≡ None → length (piece_text b numbers) ≡ 0
size_none b numbers h e = ap length (piece_none b numbers h e)

pub size_number : (b n : ℕ) (numbers : List ℕ) → b ≡ 35 → slice_get numbers 0 ≡ Some n → length (piece_text b numbers) ≡ length (decimal n)
size_number b n numbers h e = ap length (piece_number b n numbers h e)

pub ruleset left_cases = (left_mark, left_byte, left_none)

pub ruleset piece_cases = (size_byte, size_none, size_number)

-- a loop stands at byte i
pub form_more :
    (form numbers : List ℕ) (i : ℕ) → i < length form →
    form_text (drop i form) numbers
    ≡ piece_text (get_or form i 0) numbers ++ form_text (drop (i + 1) form) (left_after (get_or form i 0) numbers)
form_more form numbers i h =
    ap (λ (f : List ℕ). form_text f numbers) (drop_more form i 0 h) ∙ form_then (get_or form i 0) numbers (drop (i + 1) form)

pub form_end : (form numbers : List ℕ) (i : ℕ) → length form ≤ i → form_text (drop i form) numbers ≡ []
unfolding form_text
form_end form numbers i h = ap (λ (f : List ℕ). form_text f numbers) (drop_of_length-le form h)
