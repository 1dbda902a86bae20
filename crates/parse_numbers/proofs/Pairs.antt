-- Two digits a byte: laws for `pair` and the loop of `bytes`. Assumes nothing.
use Rattle.std.specs.Prelude.{Some, Option, None}
use Prim.Native.Nat.{ℕ, zero, suc, ◌+◌, ◌*◌, ◌/◌, ◌≤◌, ◌<◌}
use mathlib.Core.Path.{◌≡◌, refl, sym, ap, ◌∙◌}
use mathlib.Core.Bool.{Bool, true, false}
use mathlib.Core.List.{List, [], ◌∷◌}
use native.Mathlib.Omega.{arith}
use Rattle.std.specs.Simd.{first_chunks}
use lib.Dec.{lit<}
use lib.ListN.{length, drop, get_or, drop_of_length-le}
use Rattle.parse_numbers.specs.Bytes.{Bytes, hex_of, byte_of, joined, pairs_of, bytes_of, count_of}
use Rattle.parse_numbers.proofs.Values.{stands, is_not, counted_small}

pub are_none : {p : Type 0} {l : List ℕ} → Some l ≡ None → p
are_none e = absurd (let z : ◌≡◌ {A = ℕ} 0 1 = cc in let f : ⊥ = omega arith in f)

-- ---- a pair

pub hex_small : (b d : ℕ) → hex_of b ≡ Some d → d < 16
hex_small b d =
    counted_small 16 48 57 0 b _ d (lit< tt)
    (λ x. counted_small 16 97 102 10 b _ x (lit< tt)
    (λ y. counted_small 16 65 70 10 b None y (lit< tt)
    (λ z e. is_not (sym e))))

-- ---- a text

pub bytes_none : (text : List ℕ) → length text < 2 → None ≡ count_of (bytes_of text)
unfolding bytes_of pairs_of count_of
bytes_none [] h = refl
bytes_none (a ∷ []) h = refl
bytes_none (a ∷ b ∷ text) h = absurd (let f : ⊥ = omega arith in f)

pub bytes_pairs : (text : List ℕ) → 0 < length text → bytes_of text ≡ pairs_of text
unfolding bytes_of
bytes_pairs [] h = absurd (let f : ⊥ = omega arith in f)
bytes_pairs (a ∷ text) h = refl

pub pairs_length : (text l : List ℕ) → pairs_of text ≡ Some l → length text ≡ 2 * length l
unfolding pairs_of joined
pairs_length [] l e = let k : [] ≡ l = cc in rw (sym k)
pairs_length (a ∷ []) l e = are_none (sym e)
pairs_length (a ∷ b ∷ text) l e = from (byte_of a b) (pairs_of text) (pairs_length text) e
  where
    from :
        (x : (Option ℕ)) (y : Bytes) → ((m : List ℕ) → y ≡ Some m → length text ≡ 2 * length m) → joined x y ≡ Some l →
        suc (suc (length text)) ≡ 2 * length l
    from (Some v) (Some m) p g = let k : v ∷ m ≡ l = cc in let q = ap length k in omega (arith, p m refl)
    from (Some v) None p g = are_none (sym g)
    from None y p g = are_none (sym g)

pub bytes_length : (text l : List ℕ) → bytes_of text ≡ Some l → length text ≡ 2 * length l
unfolding bytes_of
bytes_length [] l e = are_none (sym e)
bytes_length (a ∷ text) l e = pairs_length (a ∷ text) l e

-- ---- the pairs as arrays

chunk_at :
    (text : List ℕ) (k i : ℕ) → i < k → 2 * k ≤ length text →
    get_or (first_chunks 2 k text) i [] ≡ get_or text (2 * i) 0 ∷ get_or text (2 * i + 1) 0 ∷ []
chunk_at text zero i l h = absurd (let f : ⊥ = omega arith in f)
chunk_at [] (suc k) i l h = absurd (let f : ⊥ = omega arith in f)
chunk_at (a ∷ []) (suc k) i l h = absurd (let f : ⊥ = omega arith in f)
chunk_at (a ∷ b ∷ text) (suc k) zero l h = refl
chunk_at (a ∷ b ∷ text) (suc k) (suc i) l h =
    let d : 2 * suc i + 1 ≡ suc (suc (2 * i + 1)) = omega arith in
    let e : 2 * suc i ≡ suc (suc (2 * i)) = omega arith in
    rw (d, e) (chunk_at text k i (omega arith) (omega arith))

-- the byte of pair i
pub byte_here :
    (text : List ℕ) (pairs : List (List ℕ)) (k i : ℕ) → pairs ≡ first_chunks 2 k text → i < k → 2 * k ≤ length text →
    byte_of (get_or (get_or pairs i []) 0 0) (get_or (get_or pairs i []) 1 0) ≡ byte_of (get_or text (2 * i) 0) (get_or text (2 * i + 1) 0)
byte_here text pairs k i e l h =
    ap (λ (p : List ℕ). byte_of (get_or p 0 0) (get_or p 1 0)) (ap (λ (q : List (List ℕ)). get_or q i []) e ∙ chunk_at text k i l h)

-- ---- the loop, at pair i: the text is in hex where what is left of it is

abbrev pub valid : Bytes → Bool
valid (Some l) = true
valid None = false

pub record SoFar (text : List ℕ) (n i : ℕ) : Type 0 where
  pub within : i ≤ n
  pub whole : length text ≡ 2 * n
  pub so_far : valid (pairs_of (drop (2 * i) text)) ≡ valid (pairs_of text)

valid_joined : (x : (Option ℕ)) (b : ℕ) (y : Bytes) → x ≡ Some b → valid (joined x y) ≡ valid y
unfolding joined
valid_joined x b (Some l) e = rw e
valid_joined x b None e = rw e

invalid_joined : (x : (Option ℕ)) (y : Bytes) → x ≡ None → valid (joined x y) ≡ false
unfolding joined
invalid_joined x y e = rw e

count_invalid : (y : Bytes) → valid y ≡ false → None ≡ count_of y
unfolding count_of
count_invalid (Some l) e = absurd (let z : ◌≡◌ {A = ℕ} 0 1 = cc in let f : ⊥ = omega arith in f)
count_invalid None e = refl

count_valid : (text : List ℕ) (n : ℕ) (y : Bytes) → pairs_of text ≡ y → length text ≡ 2 * n → valid y ≡ true → Some n ≡ count_of y
unfolding count_of
count_valid text n (Some l) p h e = let k : n ≡ length l = omega (arith, pairs_length text l p) in ap Some k
count_valid text n None p h e = absurd (let z : ◌≡◌ {A = ℕ} 0 1 = cc in let f : ⊥ = omega arith in f)

-- an odd length is no text in hex
pub odd : (text : List ℕ) (n : ℕ) → n ≡ length text / 2 → (length text ≡ 2 * n → ⊥) → None ≡ count_of (bytes_of text)
unfolding count_of
odd text n h o = from (bytes_of text) (bytes_length text)
  where
    from : (y : Bytes) → ((l : List ℕ) → y ≡ Some l → length text ≡ 2 * length l) → None ≡ count_of y
    from None p = refl
    from (Some l) p = absurd (o (omega (arith, p l refl)))

module _ (text : List ℕ) (n i : ℕ) (so : SoFar text n i) where
  pairs_at : i < n → pairs_of (drop (2 * i) text) ≡ joined (byte_of (get_or text (2 * i) 0) (get_or text (2 * i + 1) 0)) (pairs_of (drop (2 * (i + 1)) text))
  unfolding pairs_of
  pairs_at h =
      let w = so.whole in
      let e : 2 * (i + 1) ≡ 2 * i + 1 + 1 = omega arith in
      rw (e, stands text (2 * i) (omega arith), stands text (2 * i + 1) (omega arith))

  pub body : i < n → (x : (Option ℕ)) (b : ℕ) → x ≡ byte_of (get_or text (2 * i) 0) (get_or text (2 * i + 1) 0) → x ≡ Some b → SoFar text n (i + 1)
  body h x b e z =
      record {
        within = omega arith;
        whole = so.whole;
        so_far = sym (ap valid (pairs_at h) ∙ valid_joined _ b _ (sym e ∙ z)) ∙ so.so_far;
      }

  pub stopped : i < n → (x : (Option ℕ)) → x ≡ byte_of (get_or text (2 * i) 0) (get_or text (2 * i + 1) 0) → x ≡ None → None ≡ count_of (bytes_of text)
  stopped h x e z =
      let w = so.whole in
      rw (bytes_pairs text (omega arith))
      (count_invalid (pairs_of text) (sym so.so_far ∙ ap valid (pairs_at h) ∙ invalid_joined _ _ (sym e ∙ z)))

  pub ended : 0 < n → n ≤ i → Some n ≡ count_of (bytes_of text)
  unfolding pairs_of
  ended p h =
      let w = so.whole in
      let e : valid (pairs_of (drop (2 * i) text)) ≡ true = rw (drop_of_length-le text {i = 2 * i} (omega arith)) in
      rw (bytes_pairs text (omega arith)) (count_valid text n (pairs_of text) refl w (sym so.so_far ∙ e))
