-- Numbers and their bytes, there and back; and rows of records of sixteen bytes, there and back. Assumes nothing.
use Prim.Native.Nat.{ℕ, zero, suc, ◌+◌, ◌*◌, ◌≤◌, ◌<◌}
use mathlib.Core.Path.{◌≡◌, refl, ap, ◌∙◌}
use mathlib.Core.List.{List, [], ◌∷◌, ◌++◌, append_assoc}
use native.Mathlib.Omega.{arith}
use native.Mathlib.Decide.{dec_lt}
use Rattle.std.specs.Int.{w16, w32, from_le_bytes}
use Rattle.std.proofs.lemmas.Nat.{from_le_bytes-to_le_bytes_4, le_bytes_2, le_bytes_4}
use Rattle.std.proofs.lemmas.List.{get_or_past}
use lib.ListN.{length, take, drop, get_or, length-take, length-drop, take-append-drop}
use lib.Seq.{get_or-drop, get_or-take, length-take-le, drop_at, drop-drop}
use Rattle.showfile.specs.Bytes.{Bytes, word_of, half_of, word_bytes, half_bytes, row_of, row_bytes}

pub bytes_drop : (n : ℕ) (s : List ℕ) → Bytes s → Bytes (drop n s)
bytes_drop n s h i = rw get_or-drop (h (n + i))

bytes_take : (n : ℕ) (s : List ℕ) → Bytes s → Bytes (take n s)
bytes_take n s h i =
    elim (dec_lt i n) [
      | yes l ↦ rw (get_or-take n s i 0 l) (h i)
      | no l ↦ rw (get_or_past (take n s) i 0 (omega (arith, length-take n s))) (omega arith)
    ]

-- ---- numbers

pub word_there : (v : ℕ) (r : List ℕ) → v < 4294967296 → word_of (word_bytes v ++ r) ≡ v
unfolding word_of word_bytes
word_there v r h = omega (arith, from_le_bytes-to_le_bytes_4 v h)

pub half_there : (v : ℕ) (r : List ℕ) → v < 65536 → half_of (half_bytes v ++ r) ≡ v
unfolding half_of half_bytes
half_there v r h = omega arith

-- a number is read off its own bytes, which are those of its spelling
pub word_back : (s : List ℕ) → 4 ≤ length s → Bytes s → word_bytes (word_of s) ++ drop 4 s ≡ s
unfolding word_of word_bytes
word_back s h b =
    let at : (i : ℕ) → i < 4 → get_or (take 4 s) i 0 ≡ get_or s i 0 = λ i. get_or-take 4 s i 0 in
    let is : word_of s ≡ from_le_bytes w32 (take 4 s) =
    omega (arith, at 0 (omega arith), at 1 (omega arith), at 2 (omega arith), at 3 (omega arith)) in
    ap (λ (t : List ℕ). t ++ drop 4 s) (le_bytes_4 (take 4 s) (word_of s) (length-take-le 4 s h) (bytes_take 4 s b) is) ∙ take-append-drop 4 s

pub half_back : (s : List ℕ) → 2 ≤ length s → Bytes s → half_bytes (half_of s) ++ drop 2 s ≡ s
unfolding half_of half_bytes
half_back s h b =
    let at : (i : ℕ) → i < 2 → get_or (take 2 s) i 0 ≡ get_or s i 0 = λ i. get_or-take 2 s i 0 in
    let is : half_of s ≡ from_le_bytes w16 (take 2 s) = omega (arith, at 0 (omega arith), at 1 (omega arith)) in
    ap (λ (t : List ℕ). t ++ drop 2 s) (le_bytes_2 (take 2 s) (half_of s) (length-take-le 2 s h) (bytes_take 2 s b) is) ∙ take-append-drop 2 s

-- ---- rows, by what one record is read as and how it is written

module _ {A : Type 0} (of : List ℕ → A) (bytes : A → List ℕ) where
  -- the first n of a list, where each is ok, and what is ok is read as it was written
  pub row_there :
      ((a : A) → length (bytes a) ≡ 16) → (z : A) (ok : A → Type 0) → ((a : A) (r : List ℕ) → ok a → of (bytes a ++ r) ≡ a) →
      (n : ℕ) (l : List A) (r : List ℕ) → n ≤ length l → ((i : ℕ) → i < n → ok (get_or l i z)) →
      row_of of n (row_bytes bytes (take n l) ++ r) ≡ take n l
  unfolding row_of row_bytes
  row_there sixteen z ok one zero l r h k = refl
  row_there sixteen z ok one (suc n) [] r h k = absurd (omega arith)
  row_there sixteen z ok one (suc n) (a ∷ l) r h k =
      let rest = row_bytes bytes (take n l) ++ r in
      rw (append_assoc, one a rest (k 0 (omega arith)), drop_at (bytes a) rest 16 (sixteen a))
      (ap (λ (t : List A). a ∷ t) (row_there sixteen z ok one n l r (omega arith) (λ i m. k (suc i) (omega arith))))

  pub row_back :
      ((s : List ℕ) → 16 ≤ length s → Bytes s → bytes (of s) ++ drop 16 s ≡ s) → (n : ℕ) (s : List ℕ) → n * 16 ≤ length s →
      Bytes s → row_bytes bytes (row_of of n s) ++ drop (n * 16) s ≡ s
  unfolding row_of row_bytes
  row_back one zero s h b = refl
  row_back one (suc n) s h b =
      let e : suc n * 16 ≡ 16 + n * 16 = omega arith in
      let some : 16 ≤ length s = omega arith in
      let rest : n * 16 ≤ length (drop 16 s) = simp length-drop (omega arith) in
      rw (e, ← drop-drop (n * 16) 16 s, append_assoc, row_back one n (drop 16 s) rest (bytes_drop 16 s b)) (one s some b)
