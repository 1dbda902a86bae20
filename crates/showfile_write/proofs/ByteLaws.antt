-- Laws of bytes that are written over others: numbers, and bytes that are copied. Assumes nothing.
use mathlib.Core.Path.{◌≡◌, refl, ap, ◌∙◌}
use mathlib.Core.List.{List, [], ◌++◌, append_assoc, append-nil}
use Prim.Native.Nat.{ℕ, ◌+◌, ◌-◌, ◌≤◌}
use native.Mathlib.Omega.{arith}
use lib.ListN.{length, take, drop, length-append, drop_of_length-le}
use lib.Seq.{drop-drop}
use native.Mathlib.Nat.{zero-add}
use borrow.Rule.Slice.PartMut.{put_mid}
use Rattle.std.proofs.lemmas.List.{take_rest}
use Rattle.showfile.specs.Bytes.{word_bytes, four_bytes, over}
use Rattle.showfile.proofs.ByteLaws.{over_then}

-- what is put at the front of a part that goes to the end
pub rest_over :
    (b : List ℕ) (at : ℕ) {new : List ℕ} (vs : List ℕ) → new ≡ over (take (length b - at) (drop at b)) 0 vs →
    put_mid at (length b - at) b new ≡ over b at vs
unfolding over
rest_over b at vs e =
    let past : drop (at + (length b - at)) b ≡ [] = drop_of_length-le b (omega arith) in
    let front : take 0 (drop at b) ≡ [] = refl in
    rw (e, take_rest b at, drop-drop (length b - at) at b, past, append-nil, zero-add (length vs), drop-drop (length vs) at b) refl

-- ---- four numbers

pub word_length : (v : ℕ) → length (word_bytes v) ≡ 4
unfolding word_bytes
word_length v = refl

pub four_length : (p q r s : ℕ) → length (four_bytes p q r s) ≡ 16
unfolding four_bytes word_bytes
four_length p q r s = refl

-- four words, one after the other
pub four_words :
    (b : List ℕ) {b₁ b₂ b₃ b₄ : List ℕ} (at p q r s : ℕ) → at + 16 ≤ length b → b₁ ≡ over b at (word_bytes p) →
    b₂ ≡ over b₁ (at + 4) (word_bytes q) → b₃ ≡ over b₂ (at + 8) (word_bytes r) → b₄ ≡ over b₃ (at + 12) (word_bytes s) →
    b₄ ≡ over b at (four_bytes p q r s)
unfolding four_bytes
four_words b at p q r s h e₁ e₂ e₃ e₄ =
    let u = word_bytes p in
    let v = word_bytes q in
    let w = word_bytes r in
    let x = word_bytes s in
    let two : length (u ++ v) ≡ 8 = simp (length-append, word_length) in
    let three : length (u ++ v ++ w) ≡ 12 = simp (length-append, word_length) in
    let last : length x ≡ 4 = word_length s in
    let one : length u ≡ 4 = word_length p in
    let lv : length v ≡ 4 = word_length q in
    let lw : length w ≡ 4 = word_length r in
    over_then b at (u ++ v ++ w) (at + 12) x
    (over_then b at (u ++ v) (at + 8) w (over_then b at u (at + 4) v e₁ e₂ (omega arith) (omega arith)) e₃ (omega arith) (omega arith))
    e₄ (omega arith) (omega arith)
    ∙ ap (λ (t : List ℕ). over b at t) (simp append_assoc)
