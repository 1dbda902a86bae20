-- Laws of rows that are read, by what the sixteen bytes of one record are read as. Assumes nothing.
use mathlib.Core.Path.{◌≡◌, refl, ap, ◌∙◌}
use mathlib.Core.List.{List, [], ◌∷◌, ◌++◌}
use Prim.Native.Nat.{ℕ, zero, suc, ◌+◌, ◌*◌, ◌<◌}
use native.Mathlib.Numerals.{add-one}
use native.Mathlib.Omega.{arith}
use lib.ListN.{length, drop, set, replicate}
use lib.Seq.{drop-drop}
use Rattle.show.specs.Lists.{padded}
use Rattle.showfile.specs.Bytes.{row_of}
use Rattle.show.proofs.Lists.{padded_none, padded_more}

module _ {A : Type 0} (of : List ℕ → A) where
  pub row_length : (n : ℕ) (s : List ℕ) → length (row_of of n s) ≡ n
  unfolding row_of
  row_length zero s = refl
  row_length (suc n) s = ap suc (row_length n (drop 16 s))

  row_suc : (n : ℕ) (s : List ℕ) → row_of of (suc n) s ≡ row_of of n s ++ (of (drop (n * 16) s) ∷ [])
  unfolding row_of
  row_suc zero s = refl
  row_suc (suc n) s =
      let e : suc n * 16 ≡ 16 + n * 16 = omega arith in
      rw (e, ← drop-drop (n * 16) 16 s) (ap (λ (l : List A). of s ∷ l) (row_suc n (drop 16 s)))

  -- a row that is filled from the front, a record a turn
  pub row_none : (k : ℕ) (z : A) (s : List ℕ) → replicate k z ≡ padded k z (row_of of 0 s)
  unfolding row_of
  row_none k z s = padded_none k z

  pub row_more :
      (k i : ℕ) (s : List ℕ) (z : A) → i < k →
      set (padded k z (row_of of i s)) i (of (drop (i * 16) s)) ≡ padded k z (row_of of (i + 1) s)
  row_more k i s z h =
      padded_more k z (row_of of i s) (of (drop (i * 16) s)) i (row_length i s) h ∙ rw (add-one i, row_suc i s)
