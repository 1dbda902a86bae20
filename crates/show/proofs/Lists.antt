-- Laws of rows of places, and of arrays of structs that are fields of a struct. Assumes nothing.
use Prim.Native.Nat.{ℕ, zero, suc, ◌+◌, ◌-◌, ◌<◌}
use mathlib.Core.Path.{◌≡◌, refl, sym, ◌∙◌, ap, ap₂}
use mathlib.Core.List.{List, [], ◌∷◌, ◌++◌, map, append_assoc}
use native.Mathlib.Numerals.{add-one}
use native.Mathlib.Omega.{arith}
use native.Mathlib.Decide.{dec_lt}
use lib.ListN.{length, get_or, set, replicate, length-map, length-append, get_or-append}
use lib.Seq.{set_at, get_or-append-add}
use Rattle.show.specs.Lists.{listed, padded}

-- `search (unmapped, needs)` finds the length in what is known of the struct.
pub unmapped : (X Y : Type 0) (f : X → Y) (l : List X) (n : ℕ) → length (map f l) ≡ n → length l ≡ n
unmapped X Y f l n p = sym (length-map l f) ∙ p

-- ---- a row that is filled from the front, a place a turn

module _ {A : Type 0} (k : ℕ) (z : A) where
  pub padded_none : replicate k z ≡ padded k z []
  unfolding padded
  padded_none = let e : k - 0 ≡ k = omega arith in rw e

  padded_split : (l : List A) (i : ℕ) → length l ≡ i → i < k → padded k z l ≡ l ++ (z ∷ replicate (k - (i + 1)) z)
  unfolding padded
  padded_split l i e h = let s : k - i ≡ suc (k - (i + 1)) = omega arith in rw (e, s)

  padded_grown : (l : List A) (a : A) (i : ℕ) → length l ≡ i → padded k z (l ++ (a ∷ [])) ≡ l ++ (a ∷ replicate (k - (i + 1)) z)
  unfolding padded
  padded_grown l a i e = rw (length-append, e, append_assoc)

  pub padded_more : (l : List A) (a : A) (i : ℕ) → length l ≡ i → i < k → set (padded k z l) i a ≡ padded k z (l ++ (a ∷ []))
  padded_more l a i e h =
      ap (λ (r : List A). set r i a) (padded_split l i e h)
      ∙ set_at l z (replicate (k - (i + 1)) z) a i e
      ∙ sym (padded_grown l a i e)

-- ---- a row of a function's values

module _ {A : Type 0} where
  pub listed_length : (f : ℕ → A) (n : ℕ) → length (listed f n) ≡ n
  unfolding listed
  listed_length f zero = refl
  listed_length f (suc n) = rw (length-append, listed_length f n) (omega arith)

  pub listed_same : (f g : ℕ → A) (n : ℕ) → ((i : ℕ) → i < n → f i ≡ g i) → listed f n ≡ listed g n
  unfolding listed
  listed_same f g zero h = refl
  listed_same f g (suc n) h =
      ap₂ (λ (l : List A) (a : A). l ++ (a ∷ [])) (listed_same f g n (λ i l. h i (omega arith))) (h n (omega arith))

  listed_more : (f : ℕ → A) (n : ℕ) → listed f n ++ (f n ∷ []) ≡ listed f (n + 1)
  unfolding listed
  listed_more f n = rw (add-one n)

  module _ (k : ℕ) (z : A) (f : ℕ → A) where
    pub filled_none : replicate k z ≡ padded k z (listed f 0)
    unfolding listed
    filled_none = padded_none k z

    pub filled_more : (i : ℕ) → i < k → set (padded k z (listed f i)) i (f i) ≡ padded k z (listed f (i + 1))
    filled_more i h = padded_more k z (listed f i) (f i) i (listed_length f i) h ∙ ap (padded k z) (listed_more f i)

  pub listed_at : (f : ℕ → A) (n i : ℕ) (d : A) → i < n → get_or (listed f n) i d ≡ f i
  unfolding listed
  listed_at f zero i d h = absurd (let b : ⊥ = omega arith in b)
  listed_at f (suc n) i d h = from (dec_lt i n) (listed_at f n i d)
    where
      from : Dec (i < n) → (i < n → get_or (listed f n) i d ≡ f i) → get_or (listed f n ++ (f n ∷ [])) i d ≡ f i
      from (yes l) there =
          get_or-append (listed f n) (f n ∷ []) d i (rw (listed_length f n) l) ∙ there l
      from (no l) there =
          let e : i ≡ length (listed f n) + 0 = rw (listed_length f n) (omega arith) in
          ap (λ (j : ℕ). get_or (listed f n ++ (f n ∷ [])) j d) e
          ∙ get_or-append-add (listed f n) (f n ∷ []) 0 d
          ∙ ap f (let g = listed_length f n in omega arith)

  pub filled_at : (k : ℕ) (z : A) (f : ℕ → A) (n i : ℕ) (d : A) → i < n → get_or (padded k z (listed f n)) i d ≡ f i
  unfolding padded
  filled_at k z f n i d h =
      get_or-append (listed f n) (replicate (k - length (listed f n)) z) d i (rw (listed_length f n) h) ∙ listed_at f n i d h
