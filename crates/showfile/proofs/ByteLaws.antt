-- Laws of bytes written over others. Assumes nothing.
use mathlib.Core.Path.{◌≡◌, refl, sym, ap, ◌∙◌}
use mathlib.Core.List.{List, [], ◌∷◌, ◌++◌, append_assoc}
use Prim.Native.Nat.{ℕ, ◌+◌, ◌≤◌}
use native.Mathlib.Nat.{add-zero, add_assoc, zero-add}
use native.Mathlib.Omega.{arith}
use lib.ListN.{length, take, drop, set, length-append, length-take, take-append-drop}
use lib.Seq.{drop-drop, sets-eq, sets, take_at, drop_at}
use borrow.Rule.Slice.PartMut.{put_mid}
use Rattle.showfile.specs.Bytes.{over}

-- stores one after the other
pub sets_over : (vs b : List ℕ) (at : ℕ) → at + length vs ≤ length b → sets b at vs ≡ over b at vs
unfolding over
sets_over vs b at h = sets-eq vs b at h ∙ append_assoc (take at b) vs (drop (at + length vs) b)

pub one_over : (b : List ℕ) (at p : ℕ) → at + 1 ≤ length b → set b at p ≡ over b at (p ∷ [])
one_over b at p h = sets_over (p ∷ []) b at h

-- what is copied into a part
pub part_over : (b : List ℕ) (at k : ℕ) (vs : List ℕ) → length vs ≡ k → put_mid at k b vs ≡ over b at vs
unfolding over
part_over b at k vs e = rw (← e, drop-drop (length vs) at b) refl

pub over_nothing : (b : List ℕ) (at : ℕ) → b ≡ over b at []
unfolding over
over_nothing b at = rw add-zero (sym (take-append-drop at b))

-- from the first byte on
pub over_front : (b vs : List ℕ) → over b 0 vs ≡ vs ++ drop (length vs) b
unfolding over
over_front b vs = rw zero-add

over_over :
    (b : List ℕ) (at : ℕ) (vs ws : List ℕ) → at + length vs + length ws ≤ length b →
    over (over b at vs) (at + length vs) ws ≡ over b at (vs ++ ws)
unfolding over
over_over b at vs ws h =
    let x = take at b ++ (vs ++ drop (at + length vs) b) in
    let hp : length (take at b ++ vs) ≡ at + length vs = simp (length-append, length-take) (omega arith) in
    let e1 : take (at + length vs) x ≡ take at b ++ vs =
    rw (← append_assoc (take at b) vs (drop (at + length vs) b)) (take_at (take at b ++ vs) (drop (at + length vs) b) (at + length vs) hp) in
    let e3 : drop (at + length vs) x ≡ drop (at + length vs) b =
    rw (← append_assoc (take at b) vs (drop (at + length vs) b)) (drop_at (take at b ++ vs) (drop (at + length vs) b) (at + length vs) hp) in
    let e2 : drop (at + length vs + length ws) x ≡ drop (at + length vs + length ws) b =
    sym (drop-drop (length ws) (at + length vs) x)
    ∙ ap (λ (t : List ℕ). drop (length ws) t) e3
    ∙ drop-drop (length ws) (at + length vs) b in
    rw (e1, e2, length-append vs ws, ← add_assoc at (length vs) (length ws)) (simp append_assoc)

-- what a call wrote, and then the next, where the first ended
pub over_then :
    (b : List ℕ) (at : ℕ) {b₁ b₂ : List ℕ} (vs : List ℕ) (to : ℕ) (ws : List ℕ) → b₁ ≡ over b at vs → b₂ ≡ over b₁ to ws →
    at + length vs ≡ to → to + length ws ≤ length b → b₂ ≡ over b at (vs ++ ws)
over_then b at vs to ws p q e h = rw (q, p, ← e) (over_over b at vs ws (omega arith))
