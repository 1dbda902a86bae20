-- Laws of the lines that more than one text has: how long they are, what they are made of, and how they are put. Assumes nothing.
use mathlib.Core.Path.{◌≡◌, sym, ap}
use mathlib.Core.List.{List, ◌++◌, append_assoc}
use Prim.Native.Nat.{ℕ, ◌+◌, ◌≤◌}
use native.Mathlib.Omega.{arith}
use lib.ListN.{length, length-append}
use Rattle.show.specs.declared.refusal.Refusal.{Refusal}
use Rattle.show.specs.declared.refusal.Told.{Told}
use Rattle.show.specs.Refusals.{number_of, place_of, told_of}
use Rattle.text.specs.Ascii.{ascii}
use Rattle.text.specs.Decimal.{decimal}
use Rattle.text.specs.Lines.{paired, two_line, refused_text}
use Rattle.text.specs.Puts.{put_over, put_to, FitsAt, Put}
use Rattle.text.proofs.Digits.{decimal_most}
use Rattle.text.proofs.Puts.{room_as, room_put, put_as, answer_then}

pub two_length : (word : List ℕ) (a b : ℕ) → length (two_line word a b) ≡ length word + length (decimal a) + length (decimal b) + 2
two_length word a b = simp length-append (omega arith)

-- whatever the number and the place
pub refused_few : (w : Refusal) → length (refused_text w) ≤ 50
refused_few w =
    let number = decimal_most (number_of w) in
    let place = decimal_most (place_of w) in
    let whole = two_length (ascii "refused ") (number_of w) (place_of w) in
    omega arith

-- A refusal's line, of its number and its place.
pub refusal_made : (w : Refusal) (t : Told) → t ≡ told_of w → refused_text w ≡ two_line (ascii "refused ") t.number t.place
refusal_made w t e = ap (λ (x : Told). two_line (ascii "refused ") x.number x.place) (sym e)

-- The first number with the words around it, then the second with those after it, where the calls answer so and there is room, are both.
pub pair_put :
    (before : List ℕ) (a : ℕ) (between : List ℕ) (b : ℕ) (end : List ℕ) {was mid after : List ℕ} {at to next : ℕ} →
    FitsAt was at (paired before a between b end) → length mid ≡ length was →
    (mid ≡ put_over was at (before ++ (decimal a ++ between))) × (to ≡ put_to was at (before ++ (decimal a ++ between))) →
    (after ≡ put_over mid to (decimal b ++ end)) × (next ≡ put_to mid to (decimal b ++ end)) → Put was at (paired before a between b end) after next
pair_put before a between b end room k e f =
    let same = append_assoc before (decimal a ++ between) (decimal b ++ end) in
    put_as same (answer_then (before ++ (decimal a ++ between)) (decimal b ++ end) (room_as (sym same) room) e k (λ r. room_put r f.0 f.1))
