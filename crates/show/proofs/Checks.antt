-- Laws of tests: one test, the first refusal of two, the first refusal of the places below n. Assumes nothing.
use Rattle.std.specs.Prelude.{Ok, Err}
use Prim.Native.Nat.{ℕ, zero, suc, ◌+◌, ◌≤◌, ◌<◌}
use mathlib.Core.Path.{◌≡◌, refl, sym, ap, subst, ◌∙◌}
use mathlib.Core.Bool.{Bool, true, false}
use mathlib.Core.Logic.{if_pos, if_neg}
use native.Mathlib.Omega.{arith}
use native.Mathlib.Numerals.{add-one}
use native.Mathlib.Decide.{dec_lt, le_ind}
use Rattle.show.specs.Outcomes.{Check}
use Rattle.show.specs.Limits.{Tells}
use Rattle.show.specs.Checks.{unless, first, first_below}
use Rattle.show.specs.declared.refusal.Refusal.{Refusal}

-- A test that tells of a statement, and its answer.
pub tells_yes : (p : Type 0) (b : Bool) → b ≡ true → Tells b p → p
tells_yes p b e h = subst (λ (x : Bool). Tells x p) e h

pub tells_no : (p : Type 0) (b : Bool) → b ≡ false → Tells b p → p → ⊥
tells_no p b e h = subst (λ (x : Bool). Tells x p) e h

-- Two answers that tell of one statement are equal.
pub tells_once : (p : Type 0) (a b : Bool) → Tells a p → Tells b p → a ≡ b
tells_once p true true h g = refl
tells_once p true false h g = absurd (g h)
tells_once p false true h g = absurd (h g)
tells_once p false false h g = refl

pub within_refused : {X : Type 0} {w : Refusal} → ◌≡◌ {A = Check} (Ok tt) (Err w) → X
within_refused e = let z : ◌≡◌ {A = ℕ} 0 1 = cc in absurd (let f : ⊥ = omega arith in f)

-- ---- one test

module _ {p : Type 0} (d : Dec p) (w : Refusal) where
  pub unless_kept : p → unless d w ≡ Ok tt
  unless_kept h = if_pos d h (Ok tt) (Err w)

  pub unless_broken : (p → ⊥) → unless d w ≡ Err w
  unless_broken h = if_neg d h (Ok tt) (Err w)

-- by what a test told
pub kept_if : {p : Type 0} (d : Dec p) (w : Refusal) (b : Bool) → b ≡ true → Tells b p → unless d w ≡ Ok tt
kept_if {p} d w b e h = unless_kept d w (tells_yes p b e h)

pub broken_if : {p : Type 0} (d : Dec p) (w : Refusal) (b : Bool) → b ≡ false → Tells b p → unless d w ≡ Err w
broken_if {p} d w b e h = unless_broken d w (tells_no p b e h)

pub unless_within : {p : Type 0} (d : Dec p) (w : Refusal) → unless d w ≡ Ok tt → p
unless_within (yes h) w e = h
unless_within (no h) w e = within_refused (sym e)

pub unless_refused : {p : Type 0} (d : Dec p) (w : Refusal) {v : Refusal} → unless d w ≡ Err v → (p → ⊥) × (w ≡ v)
unless_refused (yes h) w e = within_refused e
unless_refused (no h) w e = (h, cc)

-- ---- the first refusal of two

pub first_refused : (x y : Check) {w : Refusal} → x ≡ Err w → first x y ≡ Err w
first_refused x y e = rw e

pub first_within : (x y : Check) → x ≡ Ok tt → first x y ≡ y
first_within x y e = rw e

pub first_left : (x y : Check) → first x y ≡ Ok tt → x ≡ Ok tt
first_left (Ok tt) y e = refl
first_left (Err w) y e = e

pub first_right : (x y : Check) → first x y ≡ Ok tt → y ≡ Ok tt
first_right (Ok tt) y e = e
first_right (Err w) y e = within_refused (sym e)

-- ---- the first refusal of the places below n

module _ (test : ℕ → Check) where
  pub below_none : first_below test 0 ≡ Ok tt
  unfolding first_below
  below_none = refl

  pub below_more : (i : ℕ) → first_below test (i + 1) ≡ first (first_below test i) (test i)
  unfolding first_below
  below_more i = rw add-one

  -- a turn of a loop that goes on
  pub below_goes : (i : ℕ) → first_below test i ≡ Ok tt → test i ≡ Ok tt → first_below test (i + 1) ≡ Ok tt
  below_goes i h e = below_more i ∙ first_within _ _ h ∙ e

  -- a turn that ends it: later places count no more
  pub below_stops :
      (i n : ℕ) {w : Refusal} → i < n → first_below test i ≡ Ok tt → test i ≡ Err w → first_below test n ≡ Err w
  unfolding first_below
  below_stops i n {w} l h e =
      le_ind (λ k. first_below test k ≡ Err w) (first_within _ _ h ∙ e) (λ k m g. first_refused _ _ g) n l

  pub below_at : (n : ℕ) → first_below test n ≡ Ok tt → (i : ℕ) → i < n → test i ≡ Ok tt
  unfolding first_below
  below_at zero h i l = absurd (let f : ⊥ = omega arith in f)
  below_at (suc n) h i l =
      elim (dec_lt i n) [
        | yes m ↦ below_at n (first_left (first_below test n) (test n) h) i m
        | no m ↦ (let e : i ≡ n = omega arith in ap test e ∙ first_right (first_below test n) (test n) h)
      ]

  pub below_all : (n : ℕ) → ((i : ℕ) → i < n → test i ≡ Ok tt) → first_below test n ≡ Ok tt
  unfolding first_below
  below_all zero h = refl
  below_all (suc n) h =
      first_within _ _ (below_all n (λ i l. h i (omega arith))) ∙ h n (omega arith)

-- A loop over the places below n that has come to i: nothing is refused so far.
pub record SoFar (test : ℕ → Check) (n i : ℕ) : Type 0 where
  pub inside : i ≤ n
  pub clear : first_below test i ≡ Ok tt

module _ (test : ℕ → Check) (n : ℕ) where
  pub begun : SoFar test n 0
  begun = record { inside = omega arith; clear = below_none test }

  pub body : (i : ℕ) → SoFar test n i → i < n → test i ≡ Ok tt → SoFar test n (i + 1)
  body i s l e = record { inside = omega arith; clear = below_goes test i s.clear e }

  pub stopped : (i : ℕ) {w : Refusal} → SoFar test n i → i < n → test i ≡ Err w → Err w ≡ first_below test n
  stopped i s l e = sym (below_stops test i n l s.clear e)

  pub ended : (i : ℕ) → SoFar test n i → n ≤ i → (Ok tt) ≡ first_below test n
  ended i s l = let e : i ≡ n = (let h = s.inside in omega arith) in sym (rw e at s.clear)

-- Only the places below n are looked at.
pub below_same :
    (f g : ℕ → Check) (n : ℕ) → ((i : ℕ) → i < n → f i ≡ g i) → first_below f n ≡ first_below g n
unfolding first_below
below_same f g zero h = refl
below_same f g (suc n) h = rw (below_same f g n (λ i l. h i (omega arith)), h n (omega arith))
