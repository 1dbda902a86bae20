-- The loop that looks whether an order names each session once. Assumes nothing.
use Prim.Native.Nat.{ℕ, ◌+◌, ◌≤◌, ◌<◌}
use mathlib.Core.Path.{◌≡◌, sym, ◌∙◌, ap}
use mathlib.Core.Bool.{Bool, true, false}
use mathlib.Core.List.{List}
use native.Mathlib.Decide.{dec_lt, ℕ_discrete}
use native.Mathlib.Omega.{arith}
use borrow.Author.Count.{below_more}
use lib.ListN.{length, get_or, set, replicate, length-set, length-replicate, get_or-replicate, get_or-eq_default}
use lib.Seq.{get_or-set_same, get_or-set_other}
use Rattle.run.specs.Sound.{NamesEach}
use Rattle.run.proofs.Orders.{names_below, names_apart, apart_names}
use Rattle.state.proofs.States.{true_false}

-- Of the first k places, which name sessions, no two the same: a session is marked exactly if one of them names it.
pub record NamedTo (o : List ℕ) (n : ℕ) (named : List Bool) (k : ℕ) : Type 0 where
  pub inside : k ≤ n
  pub sized : length named ≡ 16
  pub below : (j : ℕ) → j < k → get_or o j 0 < n
  pub apart : (i j : ℕ) → i < k → j < k → get_or o i 0 ≡ get_or o j 0 → i ≡ j
  pub marked : (j : ℕ) → j < k → get_or named (get_or o j 0) false ≡ true
  pub known : (i : ℕ) → get_or named i false ≡ true → (j : ℕ) × ((j < k) × (get_or o j 0 ≡ i))

-- Nothing is marked in the beginning.
unmarked : (n i : ℕ) → get_or (replicate n false) i false ≡ false
unmarked n i =
    elim (dec_lt i n) [
      | yes l ↦ get_or-replicate n i false false l
      | no l ↦ get_or-eq_default (replicate n false) false (rw (length-replicate n false) (omega arith))
    ]

module _ (o : List ℕ) (n : ℕ) where
  pub named_none : NamedTo o n (replicate 16 false) 0
  named_none =
      record {
        inside = omega arith;
        sized = length-replicate 16 false;
        below = λ j l. absurd (let f : ⊥ = omega arith in f);
        apart = λ i j l. absurd (let f : ⊥ = omega arith in f);
        marked = λ j l. absurd (let f : ⊥ = omega arith in f);
        known = λ i e. true_false (sym e ∙ unmarked 16 i);
      }

  module _ (named : List Bool) (k : ℕ) (h : NamedTo o n named k) (l : k < n) where
    -- a place past the sessions, or a session that was named before: not each is named once
    pub named_past : n ≤ get_or o k 0 → NamesEach o n → ⊥
    named_past m e = let b = names_below o n e k l in omega arith

    pub named_twice : get_or named (get_or o k 0) false ≡ true → NamesEach o n → ⊥
    named_twice m e =
        let p = h.known (get_or o k 0) m in
        let b = p.1.0 in
        let s : p.0 ≡ k = names_apart o n e p.0 k (omega arith) l p.1.1 in
        omega arith

    module _ (small : n ≤ 16) (b : get_or o k 0 < n) (new : get_or named (get_or o k 0) false ≡ false) where
      -- no earlier place names it
      fresh : (j : ℕ) → j < k → get_or o j 0 ≡ get_or o k 0 → ⊥
      fresh j m e = true_false (sym (h.marked j m) ∙ ap (λ (i : ℕ). get_or named i false) e ∙ new)

      abbrev marks : List Bool
      marks = set named (get_or o k 0) true

      there : get_or marks (get_or o k 0) false ≡ true
      there = get_or-set_same named (get_or o k 0) true false (rw h.sized (omega arith))

      elsewhere : (i : ℕ) → (i ≡ get_or o k 0 → ⊥) → get_or marks i false ≡ get_or named i false
      elsewhere i d = get_or-set_other named (get_or o k 0) i true false d

      apart_more : (i j : ℕ) → i < k + 1 → j < k + 1 → get_or o i 0 ≡ get_or o j 0 → Dec (i < k) → Dec (j < k) → i ≡ j
      apart_more i j p q e (yes x) (yes y) = h.apart i j x y e
      apart_more i j p q e (yes x) (no y) = let s : j ≡ k = omega arith in absurd (fresh i x (e ∙ ap (λ (z : ℕ). get_or o z 0) s))
      apart_more i j p q e (no x) (yes y) = let s : i ≡ k = omega arith in absurd (fresh j y (sym e ∙ ap (λ (z : ℕ). get_or o z 0) s))
      apart_more i j p q e (no x) (no y) = omega arith

      known_more : (i : ℕ) → get_or marks i false ≡ true → Dec (i ≡ get_or o k 0) → (j : ℕ) × ((j < k + 1) × (get_or o j 0 ≡ i))
      known_more i e (yes x) = (k, (omega arith, sym x))
      known_more i e (no x) =
          let p = h.known i (sym (elsewhere i x) ∙ e) in
          (p.0, ((let m = p.1.0 in omega arith), p.1.1))

      pub named_more : NamedTo o n marks (k + 1)
      named_more =
          record {
            inside = omega arith;
            sized = length-set named (get_or o k 0) true ∙ h.sized;
            below = below_more _ k h.below b;
            apart = λ i j p q e. apart_more i j p q e (dec_lt i k) (dec_lt j k);
            marked = below_more _ k (λ j x. elsewhere (get_or o j 0) (fresh j x) ∙ h.marked j x) there;
            known = λ i e. known_more i e (ℕ_discrete i (get_or o k 0));
          }

  pub named_all : (named : List Bool) (k : ℕ) → NamedTo o n named k → n ≤ k → NamesEach o n
  named_all named k h l =
      apart_names o n (λ j m. h.below j (omega arith)) (λ i j p q. h.apart i j (omega arith) (omega arith))
