-- What is told, from the text that was put; and that there is one answer. Assumes nothing.
use Rattle.std.specs.Prelude.{Ok}
use Prim.Native.Nat.{ℕ, ◌≤◌}
use mathlib.Core.Path.{◌≡◌, refl, sym, ap, ◌∙◌}
use mathlib.Core.List.{List, ◌++◌, append_assoc}
use native.Mathlib.Omega.{arith}
use lib.ListN.{length, take, drop, length-take, length-append}
use Rattle.std.proofs.lemmas.List.{drop-append-le, take-append-drop}
use Rattle.showfile.specs.declared.Written.{Written}
use Rattle.showfile.specs.Answers.{written, written_over}
use Rattle.showfile.proofs.ByteLaws.{over_front}
use Rattle.text.specs.Told.{ToldIs, told, short, Texted}

-- A text that was put ends inside the buffer, also where more stands behind it.
pub put_inside : (is : List ℕ → Type 0) (was after rest : List ℕ) (n : ℕ) → Texted is was after n → n ≤ length (after ++ rest)
put_inside is was after rest n h =
    let u = h.put.upto in
    let e : after ≡ h.text ++ drop (length h.text) was = h.put.bytes ∙ over_front was h.text in
    omega (arith, length-append after rest, ap length e, length-append h.text (drop (length h.text) was))

module _ (is : List ℕ → Type 0) (most : ℕ) where
  -- The text that was put is what is told.
  pub told_put : (was after : List ℕ) (n : ℕ) → Texted is was after n → most ≤ length was → ToldIs is most was (written (Ok tt) n) after
  told_put was after n h room =
      let u = h.put.upto in
      let e : n ≡ length h.text = omega arith in
      let x : after ≡ written_over (Ok tt) h.text was = h.put.bytes ∙ over_front was h.text in
      rw (e, x) (told h.text h.holds room)

  -- A text that was put into the buffer's first bytes, where these take every text, is what is told.
  pub told_front :
      ((t : List ℕ) → is t → length t ≤ most) →
      (b front after : List ℕ) (n : ℕ) → front ≡ take most b → most ≤ length b → Texted is front after n →
      ToldIs is most b (written (Ok tt) n) (after ++ drop most b)
  told_front few b front after n f room h =
      let u = h.put.upto in
      let m = few h.text h.holds in
      let e : n ≡ length h.text = omega arith in
      let inside : length h.text ≤ length (take most b) = omega (arith, length-take most b) in
      let x : after ++ drop most b ≡ written_over (Ok tt) h.text b =
      ap (λ (l : List ℕ). l ++ drop most b) (h.put.bytes ∙ over_front front h.text ∙ ap (λ (l : List ℕ). h.text ++ drop (length h.text) l) f)
      ∙ append_assoc h.text (drop (length h.text) (take most b)) (drop most b)
      ∙ ap (λ (l : List ℕ). h.text ++ l)
      (sym (drop-append-le (length h.text) (take most b) (drop most b) inside) ∙ ap (drop (length h.text)) (take-append-drop most b)) in
      rw (e, x) (told h.text h.holds room)

  -- What is told ends inside the buffer, where no text is longer than `most`.
  pub told_inside :
      ((t : List ℕ) → is t → length t ≤ most) →
      (b : List ℕ) (r : Written) (x : List ℕ) → ToldIs is most b r x → length x ≡ length b → r.len ≤ length x
  told_inside few b r x (told t h l) k = let m = few t h in omega arith
  told_inside few b r x (short l) k = omega arith

  -- Where there is one text, two answers that meet the statement are equal, and so is every byte.
  pub told_once :
      ((t u : List ℕ) → is t → is u → t ≡ u) →
      (b : List ℕ) (r s : Written) (x y : List ℕ) → ToldIs is most b r x → ToldIs is most b s y → (r ≡ s) × (x ≡ y)
  told_once one b r s x y (told t h l) (told u g m) =
      let e = one t u h g in
      (ap (λ (v : List ℕ). written (Ok tt) (length v)) e, ap (λ (v : List ℕ). written_over (Ok tt) v b) e)
  told_once one b r s x y (told t h l) (short m) = absurd (let z : ⊥ = omega arith in z)
  told_once one b r s x y (short l) (told u g m) = absurd (let z : ⊥ = omega arith in z)
  told_once one b r s x y (short l) (short m) = (refl, refl)
