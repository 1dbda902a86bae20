-- Bytes over the first of a buffer: laws for `unhex` and its loop. Assumes nothing.
use Rattle.std.specs.Prelude.{Some, Option, None}
use Rattle.std.specs.Option.{unwrap_or}
use Prim.Native.Nat.{ℕ, zero, suc, ◌+◌, ◌*◌, ◌≤◌, ◌<◌, min}
use mathlib.Core.Path.{◌≡◌, refl, sym, ap, ap₂, ◌∙◌}
use mathlib.Core.List.{List, [], ◌∷◌, ◌++◌, append_assoc}
use native.Mathlib.Numerals.{add-one}
use native.Mathlib.Omega.{arith}
use lib.ListN.{length, take, drop, get_or, set}
use lib.Seq.{take-suc, length-take-le, set_at}
use Rattle.std.proofs.lemmas.List.{take_min, drop_min}
use Rattle.parse_numbers.specs.Bytes.{Bytes, byte_of, joined, pairs_of, bytes_of, count_of, put_of}
use Rattle.parse_numbers.proofs.Values.{stands, is_not}
use Rattle.parse_numbers.proofs.Pairs.{bytes_length}

-- no bytes where there are none
unfoldable pub list_of : Bytes → List ℕ
list_of (Some l) = l
list_of None = []

-- two digits to each byte
pub listed_within : (text : List ℕ) → 2 * length (list_of (bytes_of text)) ≤ length text
unfolding list_of
listed_within text = from (bytes_of text) (bytes_length text)
  where
    from : (y : Bytes) → ((l : List ℕ) → y ≡ Some l → length text ≡ 2 * length l) → 2 * length (list_of y) ≤ length text
    from (Some l) p = omega (arith, p l refl)
    from None p = omega arith

pairs_byte : (text : List ℕ) (i : ℕ) → i < length (list_of (pairs_of text)) →
    unwrap_or (byte_of (get_or text (2 * i) 0) (get_or text (2 * i + 1) 0)) 0 ≡ get_or (list_of (pairs_of text)) i 0
unfolding pairs_of list_of joined
pairs_byte [] i h = absurd (let f : ⊥ = omega arith in f)
pairs_byte (a ∷ []) i h = absurd (let f : ⊥ = omega arith in f)
pairs_byte (a ∷ b ∷ text) zero h = from (byte_of a b) (pairs_of text) h
  where
    from : (x : (Option ℕ)) (y : Bytes) → 0 < length (list_of (joined x y)) → unwrap_or x 0 ≡ get_or (list_of (joined x y)) 0 0
    from (Some v) (Some l) g = refl
    from (Some v) None g = absurd (let f : ⊥ = omega arith in f)
    from None y g = absurd (let f : ⊥ = omega arith in f)
pairs_byte (a ∷ b ∷ text) (suc i) h =
    let d : 2 * suc i + 1 ≡ suc (suc (2 * i + 1)) = omega arith in
    let e : 2 * suc i ≡ suc (suc (2 * i)) = omega arith in
    rw (d, e) (from (byte_of a b) (pairs_of text) (pairs_byte text i) h)
  where
    from :
        (x : (Option ℕ)) (y : Bytes) →
        (i < length (list_of y) → unwrap_or (byte_of (get_or text (2 * i) 0) (get_or text (2 * i + 1) 0)) 0 ≡ get_or (list_of y) i 0) →
        suc i < length (list_of (joined x y)) →
        unwrap_or (byte_of (get_or text (2 * i) 0) (get_or text (2 * i + 1) 0)) 0 ≡ get_or (list_of (joined x y)) (suc i) 0
    from (Some v) (Some l) p g = p (omega arith)
    from (Some v) None p g = absurd (let f : ⊥ = omega arith in f)
    from None y p g = absurd (let f : ⊥ = omega arith in f)

pub byte_at : (text : List ℕ) (i : ℕ) → i < length (list_of (bytes_of text)) →
    unwrap_or (byte_of (get_or text (2 * i) 0) (get_or text (2 * i + 1) 0)) 0 ≡ get_or (list_of (bytes_of text)) i 0
unfolding bytes_of list_of
byte_at [] i h = absurd (let f : ⊥ = omega arith in f)
byte_at (a ∷ text) i h = pairs_byte (a ∷ text) i h

pub put_more : (l out : List ℕ) (i v : ℕ) → i < length l → i < length out → v ≡ get_or l i 0 →
    set (take i l ++ drop i out) i v ≡ take (i + 1) l ++ drop (i + 1) out
put_more l out i v h g e =
    ap (λ (t : List ℕ). set (take i l ++ t) i v) (stands out i g)
    ∙ set_at (take i l) (get_or out i 0) (drop (i + 1) out) v i (length-take-le i l (omega arith))
    ∙ (rw (add-one, take-suc l i 0 h, append_assoc, e))

-- ---- all, or as many as there is room for

pub put_none : (out : List ℕ) (y : Bytes) → count_of y ≡ None → out ≡ put_of y out
unfolding count_of put_of
put_none out (Some l) e = is_not e
put_none out None e = refl

pub count_is : (n : ℕ) (y : Bytes) → count_of y ≡ Some n → length (list_of y) ≡ n
unfolding count_of list_of
count_is n (Some l) e = cc
count_is n None e = is_not (sym e)

pub put_least : (out : List ℕ) (n m : ℕ) (y : Bytes) → count_of y ≡ Some n → m ≡ min n (length out) → take m (list_of y) ++ drop m out ≡ put_of y out
unfolding count_of list_of put_of
put_least out n m (Some l) e h =
    let k : n ≡ length l = cc in
    let s : m ≡ min (length out) (length l) = omega arith in
    let r : m ≡ min (length l) (length out) = omega arith in
    ap₂ (λ (a b : List ℕ). a ++ b)
    (ap (λ (i : ℕ). take i l) s ∙ take_min (length out) l)
    (ap (λ (i : ℕ). drop i out) r ∙ drop_min (length l) out)
put_least out n m None e h = is_not (sym e)
