-- Laws of text put into a buffer: what the calls answer, and piece after piece. Assumes nothing.
use mathlib.Core.Path.{◌≡◌, refl, sym, ap, subst, ◌∙◌}
use mathlib.Core.List.{List, [], ◌∷◌, ◌++◌, append_assoc}
use mathlib.Core.Logic.{if_pos, if_neg}
use Prim.Native.Nat.{ℕ, suc, ◌+◌, ◌≤◌, ◌<◌}
use native.Mathlib.Nat.{add-zero, le_refl}
use native.Mathlib.Numerals.{add-one}
use native.Mathlib.Decide.{dec_le, le_ind}
use native.Mathlib.Omega.{arith}
use lib.ListN.{length, take, drop, set, length-append, length-take}
use lib.Seq.{take-set-le, set_split, drop_at}
use Rattle.showfile.specs.Bytes.{over}
use Rattle.showfile.proofs.ByteLaws.{one_over, over_nothing, over_then}
use Rattle.text.specs.Puts.{put_over, put_to, FitsAt, Put}

-- ---- what a call answers

-- where there is room ..
module _ {was : List ℕ} {at : ℕ} {t : List ℕ} (room : FitsAt was at t) where
  over_room : put_over was at t ≡ over was at t
  unfolding put_over
  over_room = if_pos (dec_le (at + length t) (length was)) room.fits _ _

  to_room : put_to was at t ≡ at + length t
  unfolding put_to
  to_room = if_pos (dec_le (at + length t) (length was)) room.fits _ _

  -- .. the answer says that the text was put ..
  pub room_put : {after : List ℕ} {next : ℕ} → after ≡ put_over was at t → next ≡ put_to was at t → Put was at t after next
  room_put e f = record { bytes = e ∙ over_room; upto = f ∙ to_room }

  -- .. and the text that was put is the answer
  pub put_answers : {after : List ℕ} {next : ℕ} → Put was at t after next → (after ≡ put_over was at t) × (next ≡ put_to was at t)
  put_answers p = (p.bytes ∙ sym over_room, p.upto ∙ sym to_room)

-- where there is none, nothing is put
module _ (was : List ℕ) (at : ℕ) (t : List ℕ) (none : at + length t ≤ length was → ⊥) where
  pub no_room : (was ≡ put_over was at t) × (at ≡ put_to was at t)
  unfolding put_over put_to
  no_room =
      (sym (if_neg (dec_le (at + length t) (length was)) none _ _), sym (if_neg (dec_le (at + length t) (length was)) none _ _))

-- ---- piece after piece

pub put_none : (was : List ℕ) (at : ℕ) → Put was at [] was at
put_none was at = record { bytes = over_nothing was at; upto = sym (add-zero at) }

pub put_one : (was : List ℕ) (at b : ℕ) → FitsAt was at (b ∷ []) → Put was at (b ∷ []) (set was at b) (at + 1)
put_one was at b room = record { bytes = one_over was at b room.fits; upto = refl }

-- a byte stored behind a text that is then put is part of it
pub over_behind :
    (b : List ℕ) (at : ℕ) (t : List ℕ) (d : ℕ) → at + length t < length b → over (set b (at + length t) d) at t ≡ over b at (t ++ (d ∷ []))
unfolding over
over_behind b at t d h =
    let k = at + length t in
    let first : take at (set b k d) ≡ take at b = take-set-le at b k d (omega arith) in
    let then : drop k (set b k d) ≡ d ∷ drop (suc k) b =
    rw (set_split b k d h) (drop_at (take k b) (d ∷ drop (suc k) b) k (simp length-take (omega arith))) in
    let next : at + length (t ++ (d ∷ [])) ≡ suc k = simp length-append (omega arith) in
    rw (first, then, next) (simp append_assoc)

-- the same text by another name
pub put_as : {was after t u : List ℕ} {at next : ℕ} → t ≡ u → Put was at t after next → Put was at u after next
put_as {was} {after} {at = at} {next = next} e p = subst (λ (x : List ℕ). Put was at x after next) e p

pub room_as : {was t u : List ℕ} {at : ℕ} → t ≡ u → FitsAt was at t → FitsAt was at u
room_as {was} {at = at} e r = subst (λ (x : List ℕ). FitsAt was at x) e r

-- what a call answers of a text by another name, where there is room
pub answer_as :
    {s t was after : List ℕ} {at next : ℕ} → s ≡ t → FitsAt was at s → (after ≡ put_over was at t) × (next ≡ put_to was at t) →
    Put was at s after next
answer_as e room f = put_as (sym e) (room_put (room_as e room) f.0 f.1)

-- One text and then another: there is room for the first, after it for the second, and both are then put.
module _ {was : List ℕ} {at : ℕ} (t u : List ℕ) (room : FitsAt was at (t ++ u)) where
  pub room_first : FitsAt was at t
  room_first = record { fits = (let r = room.fits in omega (arith, length-append t u)) }

  module _ {mid : List ℕ} {to : ℕ} (p : Put was at t mid to) where
    pub room_then : length mid ≡ length was → FitsAt mid to u
    room_then k =
        record { fits = (let r = room.fits in let i = p.upto in omega (arith, length-append t u)) }

    pub put_then : {after : List ℕ} {next : ℕ} → Put mid to u after next → Put was at (t ++ u) after next
    put_then {after} {next} q =
        let r = room.fits in
        let i = p.upto in
        let j = q.upto in
        record {
          bytes = over_then was at t to u p.bytes q.bytes (sym i) (omega (arith, length-append t u));
          upto = omega (arith, length-append t u);
        }

  -- The same of a call that answers for the first, with what is then said of the second.
  pub answer_then :
      {mid after : List ℕ} {to next : ℕ} → (mid ≡ put_over was at t) × (to ≡ put_to was at t) → length mid ≡ length was →
      (FitsAt mid to u → Put mid to u after next) → Put was at (t ++ u) after next
  answer_then e k rest = let p = room_put room_first e.0 e.1 in put_then p (rest (room_then p k))

-- Pieces put one after the other: those below i so far, n in all.
pub record PutTo (was : List ℕ) (at : ℕ) (so_far : ℕ → List ℕ) (n : ℕ) (out : List ℕ) (i next : ℕ) : Type 0 where
  pub inside : i ≤ n
  pub same : length out ≡ length was
  pub put : Put was at (so_far i) out next

module _ (was : List ℕ) (at : ℕ) (so_far : ℕ → List ℕ) (n : ℕ) where
  pub pieces_begun : so_far 0 ≡ [] → PutTo was at so_far n was 0 at
  pieces_begun e = record { inside = omega arith; same = refl; put = put_as (sym e) (put_none was at) }

  pub pieces_ended : (out : List ℕ) (i next : ℕ) → PutTo was at so_far n out i next → n ≤ i → Put was at (so_far n) out next
  pieces_ended out i next h l = put_as (ap so_far (let a = h.inside in omega arith)) h.put

  module _ (piece : ℕ → List ℕ) (more : (i : ℕ) → i < n → so_far (i + 1) ≡ so_far i ++ piece i) where
    pub longer : (i : ℕ) → i ≤ n → length (so_far i) ≤ length (so_far n)
    longer i h =
        le_ind (λ k. k ≤ n → length (so_far i) ≤ length (so_far k)) (λ g. le_refl _)
        (λ k l p g.
        (let e : length (so_far (k + 1)) ≡ length (so_far k) + length (piece k) =
        ap length (more k g) ∙ length-append (so_far k) (piece k) in
        let q = p (omega arith) in
        rw (← add-one k) (omega arith)))
        n h (le_refl n)

    module _ (room : FitsAt was at (so_far n)) (out : List ℕ) (i next : ℕ) (h : PutTo was at so_far n out i next) (l : i < n) where
      room_up : FitsAt was at (so_far i ++ piece i)
      room_up =
          room_as (more i l) (record { fits = (let r = room.fits in let g = longer (i + 1) (omega arith) in omega arith) })

      pub piece_room : FitsAt out next (piece i)
      piece_room = room_then (so_far i) (piece i) room_up h.put h.same

      pub piece_put :
          (after : List ℕ) (to : ℕ) → length after ≡ length out → Put out next (piece i) after to → PutTo was at so_far n after (i + 1) to
      piece_put after to k p =
          record {
            inside = omega arith;
            same = k ∙ h.same;
            put = put_as (sym (more i l)) (put_then (so_far i) (piece i) room_up h.put p);
          }

-- ---- what is left to put

-- the rest of a text, from `next` on, would make it whole
pub record Rest (was : List ℕ) (at : ℕ) (whole out : List ℕ) (next : ℕ) (rest : List ℕ) : Type 0 where
  pub same : length out ≡ length was
  pub room : next + length rest ≤ length out
  pub upto : next + length rest ≡ at + length whole
  pub bytes : over out next rest ≡ over was at whole

pub rest_begun : {was : List ℕ} {at : ℕ} {whole : List ℕ} → FitsAt was at whole → Rest was at whole was at whole
rest_begun r = record { same = refl; room = r.fits; upto = refl; bytes = refl }

module _ {was : List ℕ} {at : ℕ} {whole out : List ℕ} {next : ℕ} {rest : List ℕ} (h : Rest was at whole out next rest) where
  -- a piece of it ..
  module _ (piece more : List ℕ) (e : rest ≡ piece ++ more) where
    rest_fits : FitsAt out next (piece ++ more)
    rest_fits = record { fits = (let r = h.room in rw e at r) }

    pub rest_room : FitsAt out next piece
    rest_room = room_first piece more rest_fits

    -- .. leaves what is behind it
    pub rest_put : {after : List ℕ} {to : ℕ} → length after ≡ length out → Put out next piece after to → Rest was at whole after to more
    rest_put {after} {to} k p =
        let q = put_then piece more rest_fits p {after = over after to more} {next = to + length more} (record { bytes = refl; upto = refl }) in
        record {
          same = k ∙ h.same;
          room = (let r = (room_then piece more rest_fits p k).fits in r);
          upto = q.upto ∙ ap (λ (x : List ℕ). next + length x) (sym e) ∙ h.upto;
          bytes = q.bytes ∙ ap (over out next) (sym e) ∙ h.bytes;
        }

  pub rest_ended : rest ≡ [] → Put was at whole out next
  rest_ended e =
      record {
        bytes = over_nothing out next ∙ ap (over out next) (sym e) ∙ h.bytes;
        upto = (let u = h.upto in omega (arith, ap length e));
      }
