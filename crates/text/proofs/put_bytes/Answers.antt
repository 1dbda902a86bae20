-- One byte a turn: what was put so far is what the word begins with. Assumes nothing.
use mathlib.Core.Path.{◌≡◌, refl, sym, ap, ◌∙◌}
use mathlib.Core.List.{List, [], ◌∷◌, ◌++◌}
use Prim.Native.Nat.{ℕ, ◌+◌, ◌<◌}
use native.Mathlib.Nat.{add-zero, add_assoc}
use native.Mathlib.Numerals.{add-one}
use native.Mathlib.Omega.{arith}
use lib.ListN.{length, get_or, take, set, length-set}
use lib.Seq.{take-suc, take_all}
use Rattle.text.specs.Puts.{FitsAt}
use Rattle.text.proofs.Puts.{PutTo, pieces_begun, piece_room, piece_put, put_one, room_as}
use Rattle.text.proofs.put_bytes.Goals as goal

-- the bytes of a word are its pieces
more : (word : List ℕ) (i : ℕ) → i < length word → take (i + 1) word ≡ take i word ++ (get_or word i 0 ∷ [])
more word i h = ap (λ (k : ℕ). take k word) (add-one i) ∙ take-suc word i 0 h

body :
    (was : List ℕ) (at : ℕ) (word out : List ℕ) (i : ℕ) → FitsAt was at word → PutTo was at (λ k. take k word) (length word) out i (at + i) →
    i < length word → PutTo was at (λ k. take k word) (length word) (set out (at + i) (get_or word i 0)) (i + 1) (at + (i + 1))
body was at word out i r h l =
    let room = room_as (sym (take_all (length word) word (omega arith))) r in
    let here = piece_room was at _ _ (λ k. get_or word k 0 ∷ []) (more word) room out i (at + i) h l in
    piece_put was at _ _ (λ k. get_or word k 0 ∷ []) (more word) room out i (at + i) h l _ _ (length-set out (at + i) (get_or word i 0))
    (rw (← add_assoc at i 1) (put_one out (at + i) (get_or word i 0) here))

pub loop-i-init : goal.loop-i-init
loop-i-init c = rw (add-zero c.args.at) (pieces_begun c.args.out.now c.args.at (λ k. take k c.args.word.now) (length c.args.word.now) refl)

pub loop-i-preserved : goal.loop-i-preserved
loop-i-preserved c =
    body c.args.out.now c.args.at c.args.word.now c.loop-i.out c.loop-i.i c.requires c.loop-i.invariant c.loop-i-test.true
