-- A layout, a session and a trailer, there and back. Assumes nothing.
use Prim.Native.Nat.{ℕ, ◌+◌, ◌*◌, ◌≤◌, ◌<◌}
use mathlib.Core.Path.{◌≡◌, refl, sym, ap, subst, ◌∙◌}
use mathlib.Core.List.{List, [], ◌∷◌, ◌++◌, append_assoc, append-nil}
use native.Mathlib.Omega.{arith}
use lib.ListN.{length, drop, length-drop, drop_of_length-le}
use lib.Seq.{drop-drop}
use Rattle.show.specs.declared.Layout.{Layout}
use Rattle.show.specs.declared.Session.{Session}
use Rattle.show.specs.declared.Show.{Show}
use Rattle.show.specs.Limits.{LayoutWithin, SessionWithin, DriveWithin, CountsWithin}
use Rattle.showfile.specs.Bytes.{Bytes, word_of, half_of, word_bytes, half_bytes, four_bytes}
use Rattle.showfile.specs.Rows.{words_of, bytes_of, Words}
use Rattle.showfile.specs.File.{layout_of, layout_bytes, session_of, session_bytes, trailer_of, trailer_bytes, trailer_for}
use Rattle.showfile_write.proofs.Words.{bytes_drop, word_there, half_there, word_back, half_back}

-- ---- written, then read

-- what the bytes t spell, at 0, 4, 8 and 12
record Spells (t : List ℕ) (p q r s : ℕ) : Type 0 where
  pub one : word_of t ≡ p
  pub two : word_of (drop 4 t) ≡ q
  pub three : word_of (drop 8 t) ≡ r
  pub four : word_of (drop 12 t) ≡ s

four_there :
    (p q r s : ℕ) (t : List ℕ) → p < 4294967296 → q < 4294967296 → r < 4294967296 → s < 4294967296 →
    Spells (four_bytes p q r s ++ t) p q r s
unfolding four_bytes word_bytes
four_there p q r s t hp hq hr hs =
    record { one = word_there p _ hp; two = word_there q _ hq; three = word_there r _ hr; four = word_there s _ hs }

-- the numbers of a record are read off their own bytes, ..
words_there : (w : List ℕ) → Words w → words_of (bytes_of w) ≡ w
words_there (p ∷ q ∷ r ∷ s ∷ []) k =
    let words : Spells (four_bytes p q r s) p q r s =
    subst (λ (t : List ℕ). Spells t p q r s) (append-nil (four_bytes p q r s))
    (four_there p q r s [] (k.small 0) (k.small 1) (k.small 2) (k.small 3)) in
    rw (words.one, words.two, words.three, words.four) refl
words_there [] k = absurd (omega (arith, k.four))
words_there (p ∷ []) k = absurd (omega (arith, k.four))
words_there (p ∷ q ∷ []) k = absurd (omega (arith, k.four))
words_there (p ∷ q ∷ r ∷ []) k = absurd (omega (arith, k.four))
words_there (p ∷ q ∷ r ∷ s ∷ t ∷ l) k = absurd (omega (arith, k.four))

-- .. so `Row::words` and `Row::from_words` have one answer each.
pub words_once : (v w : List ℕ) → Words v → Words w → bytes_of v ≡ bytes_of w → v ≡ w
words_once v w j k e = sym (words_there v j) ∙ ap words_of e ∙ words_there w k

pub from_once :
    {A : Type 0} (of : List ℕ → A) (w : List ℕ) (a b : A) → Words w → ((s : List ℕ) → w ≡ words_of s → a ≡ of s) →
    ((s : List ℕ) → w ≡ words_of s → b ≡ of s) → a ≡ b
from_once of w a b k f g = let e = sym (words_there w k) in f (bytes_of w) e ∙ sym (g (bytes_of w) e)

pub layout_there : (y : Layout) (r : List ℕ) → LayoutWithin y → layout_of (layout_bytes y ++ r) ≡ y
unfolding layout_of layout_bytes
layout_there y r w =
    let words = four_there y.longest y.track y.time y.rotation r (omega arith) (omega arith) (omega arith) (omega arith) in
    rw (words.one, words.two, words.three, words.four)

pub session_there : (laid : ℕ) → laid ≤ 8 → (x : Session) (r : List ℕ) → SessionWithin laid x → session_of (session_bytes x ++ r) ≡ x
unfolding session_of session_bytes
session_there laid h x r w =
    let words = four_there x.rate x.cushion x.buffer x.layout r (omega arith) (omega arith) (omega arith) (omega arith) in
    rw (words.one, words.two, words.three, words.four)

pub trailer_there :
    (x : Show) → DriveWithin x.drive → CountsWithin x.laid x.playing → trailer_of (trailer_bytes (trailer_for x)) ≡ trailer_for x
unfolding trailer_of trailer_bytes trailer_for word_bytes half_bytes
trailer_there x d c =
    rw (
      word_there x.drive.block _ (omega arith),
      word_there x.drive.cylinder _ (omega arith),
      half_there x.laid _ (omega arith),
      half_there x.playing _ (omega arith),
      word_there (16 * (x.laid + x.playing)) _ (omega arith),
      word_there (16 * x.playing) _ (omega arith),
    )

-- ---- read, then written

-- the number at n
word_step : (n : ℕ) (s : List ℕ) → n + 4 ≤ length s → Bytes s → word_bytes (word_of (drop n s)) ++ drop (n + 4) s ≡ drop n s
word_step n s h b =
    let some : 4 ≤ length (drop n s) = simp length-drop (omega arith) in
    rw (← drop-drop 4 n s) (word_back (drop n s) some (bytes_drop n s b))

half_step : (n : ℕ) (s : List ℕ) → n + 2 ≤ length s → Bytes s → half_bytes (half_of (drop n s)) ++ drop (n + 2) s ≡ drop n s
half_step n s h b =
    let some : 2 ≤ length (drop n s) = simp length-drop (omega arith) in
    rw (← drop-drop 2 n s) (half_back (drop n s) some (bytes_drop n s b))

four_back :
    (s : List ℕ) → 16 ≤ length s → Bytes s →
    four_bytes (word_of s) (word_of (drop 4 s)) (word_of (drop 8 s)) (word_of (drop 12 s)) ++ drop 16 s ≡ s
unfolding four_bytes
four_back s h b =
    let e₀ : word_bytes (word_of s) ++ drop 4 s ≡ s = word_step 0 s (omega arith) b in
    let e₁ : word_bytes (word_of (drop 4 s)) ++ drop 8 s ≡ drop 4 s = word_step 4 s (omega arith) b in
    let e₂ : word_bytes (word_of (drop 8 s)) ++ drop 12 s ≡ drop 8 s = word_step 8 s (omega arith) b in
    let e₃ : word_bytes (word_of (drop 12 s)) ++ drop 16 s ≡ drop 12 s = word_step 12 s (omega arith) b in
    simp (append_assoc, e₃, e₂, e₁, e₀)

pub layout_back : (s : List ℕ) → 16 ≤ length s → Bytes s → layout_bytes (layout_of s) ++ drop 16 s ≡ s
unfolding layout_bytes layout_of
layout_back = four_back

pub session_back : (s : List ℕ) → 16 ≤ length s → Bytes s → session_bytes (session_of s) ++ drop 16 s ≡ s
unfolding session_bytes session_of
session_back = four_back

pub trailer_back : (s : List ℕ) → length s ≡ 20 → Bytes s → trailer_bytes (trailer_of s) ≡ s
unfolding trailer_bytes trailer_of
trailer_back s h b =
    let e₀ : word_bytes (word_of s) ++ drop 4 s ≡ s = word_step 0 s (omega arith) b in
    let e₁ : word_bytes (word_of (drop 4 s)) ++ drop 8 s ≡ drop 4 s = word_step 4 s (omega arith) b in
    let e₂ : half_bytes (half_of (drop 8 s)) ++ drop 10 s ≡ drop 8 s = half_step 8 s (omega arith) b in
    let e₃ : half_bytes (half_of (drop 10 s)) ++ drop 12 s ≡ drop 10 s = half_step 10 s (omega arith) b in
    let e₄ : word_bytes (word_of (drop 12 s)) ++ drop 16 s ≡ drop 12 s = word_step 12 s (omega arith) b in
    let e₅ : word_bytes (word_of (drop 16 s)) ++ drop 20 s ≡ drop 16 s = word_step 16 s (omega arith) b in
    let most : length s ≤ 20 = omega arith in
    let last : word_bytes (word_of (drop 16 s)) ≡ drop 16 s =
    sym (append-nil (word_bytes (word_of (drop 16 s))))
    ∙ ap (λ (r : List ℕ). word_bytes (word_of (drop 16 s)) ++ r) (sym (drop_of_length-le s most))
    ∙ e₅ in
    rw (last, e₄, e₃, e₂, e₁, e₀)
