-- The place of a refused file is below 16. Assumes nothing.
use Rattle.std.specs.Prelude.{Ok, Err}
use Prim.Native.Nat.{ℕ, ◌-◌, ◌<◌}
use mathlib.Core.Path.{◌≡◌, refl, subst, ◌∙◌}
use mathlib.Core.List.{List}
use native.Mathlib.Decide.{dec_le}
use native.Mathlib.Omega.{arith}
use lib.ListN.{length, drop}
use Rattle.show.specs.Outcomes.{Check}
use Rattle.show.specs.declared.Show.{Show}
use Rattle.show.specs.declared.refusal.Refusal.{Refusal}
use Rattle.show.specs.declared.refusal.Refusal.TheVariants as refusal
use Rattle.show.specs.Refusals.{place_of}
use Rattle.show.specs.Decisions.{between?, counts?}
use Rattle.show.specs.Checks.{unless, first, show_check}
use Rattle.show.specs.Faults.{Fault, counts, drive, layout, session}
use Rattle.show.proofs.Checks.{unless_refused}
use Rattle.show.proofs.Faults.{check_fault}
use Rattle.show.proofs.Shows.{limits_left}
use Rattle.showfile.specs.declared.trailer.Trailer.{Trailer}
use Rattle.showfile.specs.File.{trailer_of, show_from}
use Rattle.showfile.specs.Checks.{file_least, file_most, note_most, note_length, distanced?, trailer_check}
use Rattle.showfile.specs.Answers.{reading, read_check, read_at, read_of, shown_at}
use Rattle.showfile.proofs.Passed.{check_framed}

abbrev pub Small : Refusal → Type 0
Small w = place_of w < 16

fault_small : {s : Show} {w : Refusal} → Fault s w → Small w
fault_small (counts h) = omega arith
fault_small (drive c h) = omega arith
fault_small (layout c d l) = (let a = l.inside in let b = c.layouts in omega (arith, a, b))
fault_small (session c d all l) = (let a = l.inside in let b = c.sessions in omega (arith, a, b))

-- 2, 5, 6, 7
pub show_small : (s : Show) {w : Refusal} → show_check s ≡ Err w → Small w
show_small s e = fault_small (check_fault s e)

unless_small : {p : Type 0} (d : Dec p) (v : Refusal) {w : Refusal} → Small v → unless d v ≡ Err w → Small w
unless_small d v h e = subst Small (unless_refused d v e).1 h

first_small :
    (x y : Check) {w : Refusal} → (x ≡ Err w → Small w) → (x ≡ Ok tt → y ≡ Err w → Small w) →
    first x y ≡ Err w → Small w
first_small (Ok tt) y a b e = b refl e
first_small (Err v) y a b e = a e

reading_check : (c : Check) (x : Show) (n : ℕ) → c ≡ (reading c x n).check
reading_check (Ok tt) x n = refl
reading_check (Err w) x n = refl

trailer_small : (at : ℕ) (t : Trailer) {w : Refusal} → trailer_check at t ≡ Err w → Small w
unfolding trailer_check
trailer_small at t e =
    first_small _ _ (unless_small (counts? t.laid t.playing) refusal.Counts (omega arith))
    (λ _. first_small _ _ (unless_small (distanced? at t) refusal.Distances (omega arith))
    (λ _. unless_small (dec_le (note_length at t) note_most) refusal.NoteLength (omega arith))) e

checked_small : (f : List ℕ) (at : ℕ) (t : Trailer) {w : Refusal} → read_check f at t ≡ Err w → Small w
unfolding read_check show_from
checked_small f at t e =
    first_small _ _ (unless_small (between? file_least (length f) file_most) refusal.FileLength (omega arith))
    (λ _. first_small _ _ (trailer_small at t)
    (λ h k. show_small (shown_at f at t) (limits_left (shown_at f at t) (check_framed at t h).counts ∙ k))) e

-- 1 to 7
pub read_small : (f : List ℕ) {w : Refusal} → (read_of f).check ≡ Err w → Small w
unfolding read_of read_at
read_small f e =
    let at = length f - 20 in
    let t = trailer_of (drop at f) in
    checked_small f at t (reading_check (read_check f at t) (shown_at f at t) (note_length at t) ∙ e)
