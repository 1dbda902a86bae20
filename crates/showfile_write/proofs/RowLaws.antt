-- Laws of rows that are written, by how one record is written, in sixteen bytes. Assumes nothing.
use mathlib.Core.Path.{◌≡◌, refl, sym, ap, ◌∙◌}
use mathlib.Core.List.{List, [], ◌∷◌, ◌++◌, append_assoc, append-nil}
use Prim.Native.Nat.{ℕ, ◌+◌, ◌*◌, ◌≤◌, ◌<◌}
use native.Mathlib.Numerals.{add-one}
use native.Mathlib.Omega.{arith}
use lib.ListN.{length, take, get_or, length-append}
use lib.Seq.{take-suc, length-take-le}
use Rattle.showfile.specs.Bytes.{row_bytes, over}
use Rattle.showfile.proofs.ByteLaws.{over_nothing, over_then}

module _ {A : Type 0} (bytes : A → List ℕ) where
  bytes_append : (l m : List A) → row_bytes bytes (l ++ m) ≡ row_bytes bytes l ++ row_bytes bytes m
  unfolding row_bytes
  bytes_append [] m = refl
  bytes_append (a ∷ l) m = rw (bytes_append l m, append_assoc)

  bytes_one : (a : A) → row_bytes bytes (a ∷ []) ≡ bytes a
  unfolding row_bytes
  bytes_one a = append-nil (bytes a)

  bytes_more :
      (l : List A) (i : ℕ) (d : A) → i < length l → row_bytes bytes (take (i + 1) l) ≡ row_bytes bytes (take i l) ++ bytes (get_or l i d)
  bytes_more l i d h =
      rw (add-one, take-suc l i d h, bytes_append) (ap (λ (t : List ℕ). row_bytes bytes (take i l) ++ t) (bytes_one (get_or l i d)))

  module _ (sixteen : (a : A) → length (bytes a) ≡ 16) where
    bytes_length : (l : List A) → length (row_bytes bytes l) ≡ length l * 16
    unfolding row_bytes
    bytes_length [] = refl
    bytes_length (a ∷ l) = simp (length-append, sixteen a, bytes_length l) (omega arith)

    -- of the first n
    pub taken_length : (n : ℕ) (l : List A) → n ≤ length l → length (row_bytes bytes (take n l)) ≡ n * 16
    taken_length n l h = bytes_length (take n l) ∙ ap (λ (k : ℕ). k * 16) (length-take-le n l h)

  -- a row that is written from the front, a record a turn: what is written of it, and how long that is
  pub written_none : (b : List ℕ) (l : List A) → (b ≡ over b 0 (row_bytes bytes (take 0 l))) × (length (row_bytes bytes (take 0 l)) ≡ 0)
  unfolding row_bytes
  written_none b l = (over_nothing b 0, refl)

  pub written_more :
      (b₀ : List ℕ) {b b' : List ℕ} (i : ℕ) (l : List A) (a : A) → i < length l → a ≡ get_or l i a → length (bytes a) ≡ 16 →
      i * 16 + 16 ≤ length b₀ → b ≡ over b₀ 0 (row_bytes bytes (take i l)) → length (row_bytes bytes (take i l)) ≡ i * 16 →
      b' ≡ over b (i * 16) (bytes a) →
      (b' ≡ over b₀ 0 (row_bytes bytes (take (i + 1) l))) × (length (row_bytes bytes (take (i + 1) l)) ≡ (i + 1) * 16)
  written_more b₀ i l a hi ea sixteen hb e done e' =
      let more : row_bytes bytes (take (i + 1) l) ≡ row_bytes bytes (take i l) ++ bytes a =
      bytes_more l i a hi ∙ ap (λ (x : A). row_bytes bytes (take i l) ++ bytes x) (sym ea) in (
        rw more (over_then b₀ 0 (row_bytes bytes (take i l)) (i * 16) (bytes a) e e' (omega arith) (omega arith)),
        rw more (length-append (row_bytes bytes (take i l)) (bytes a) ∙ omega arith),
      )
