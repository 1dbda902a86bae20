-- The order of refusals of the calls on a file. Assumes nothing.
use Rattle.std.specs.Prelude.{Ok}
use Prim.Native.Nat.{ℕ, ◌<◌}
use mathlib.Core.Path.{◌≡◌, refl, ap, ◌∙◌}
use mathlib.Core.List.{List, []}
use native.Mathlib.Omega.{arith}
use lib.ListN.{length}
use Rattle.show.specs.Outcomes.{Check}
use Rattle.show.specs.declared.Show.{Show}
use Rattle.show.specs.Decisions.{between?, counts?}
use Rattle.show.specs.Checks.{first, limits_check}
use Rattle.show.specs.Outcomes.{Outcome, granted, check_outcome}
use Rattle.show.proofs.Checks.{first_within}
use Rattle.showfile.specs.declared.Written.{Written}
use Rattle.showfile.specs.File.{file_of, zeroed}
use Rattle.showfile.specs.Checks.{file_least, file_most, note_most, note_length, distanced?, trailer_check}
use Rattle.showfile.specs.Answers.{read_check, read_at, read_of, shown_at}
use Rattle.showfile_write.specs.Answers.{room_check, write_check, written_of}
use Rattle.showfile_copy.specs.Trips.{reread_of, copy_check, copied_of}
use Rattle.showfile_copy.proofs.Trip.{written_check}
use Rattle.text.specs.Told.{ToldIs, told, short}
use Rattle.report.specs.Answers.{TextIs, text_most}
use Rattle.explain.specs.Answers.{SaidIs, said_most}
use Rattle.promises.specs.Order.{Grants, ◌when◌else◌, trailer_at, trailer_in, FileThen, WriteOrder, OfFiles}
use Rattle.promises.proofs.Tells.{after, after_first, unless_fails, most_tests, tells_last, tells_then, outcome_by}
use Rattle.promises.proofs.Refusals.{reading_check}
use Rattle.promises.proofs.OrderOfShows.{limits_tell}

-- the check of a file whose trailer is its last twenty bytes
abbrev pub file_check : List ℕ → Check
file_check f = read_check f (trailer_at f) (trailer_in f)

pub file_tells :
    (f : List ℕ) (o : Outcome) {rest : Outcome → Type 0} → (file_check f ≡ Ok tt → rest o) → FileThen f rest (after (file_check f) o)
unfolding read_check trailer_check
file_tells f o g =
    let at = trailer_at f in
    let t = trailer_in f in
    let limits = limits_check (shown_at f at t) in
    tells_then o _ (unless_fails (between? file_least (length f) file_most)) refl
    (λ size.
    rw (after_first (trailer_check at t) limits o)
    (tells_then (after limits o) _ (unless_fails (counts? t.laid t.playing)) refl
    (λ counts.
    tells_then (after limits o) _ (unless_fails (distanced? at t)) refl
    (λ far.
    tells_last (after limits o) (most_tests (note_length at t) note_most) refl
    (λ note.
    limits_tell (shown_at f at t) o
    (λ e. g (first_within _ _ size ∙ first_within _ _ (first_within _ _ counts ∙ first_within _ _ far ∙ note) ∙ e)))))))

pub read_check_is : (f : List ℕ) → (read_of f).check ≡ file_check f
unfolding read_of read_at
read_check_is f = reading_check (file_check f) _ _

write_tells : (x : Show) (note : List ℕ) (room : ℕ) → WriteOrder x note room (after (write_check x note room) (granted []))
unfolding write_check
write_tells x note room =
    let size = length (file_of x note) in
    tells_then _ _ (unless_fails (counts? x.laid x.playing)) refl
    (λ e.
    tells_then _ _ (most_tests (length note) note_most) refl
    (λ e.
    rw (after_first (limits_check x) (room_check size room) (granted []))
    (limits_tell x (after (room_check size room) (granted [])) (λ e. tells_last _ (most_tests size room) refl (λ e. refl)))))

told_tells :
    (is : List ℕ → Type 0) (most : ℕ) (b : List ℕ) (r : Written) (x : List ℕ) → ToldIs is most b r x →
    (16 when length b < most else Grants) (check_outcome r.check)
told_tells is most b r x (told t h l) = record { present = λ s. absurd (let f : ⊥ = omega arith in f); absent = λ c. refl }
told_tells is most b r x (short l) = record { present = λ s. refl; absent = λ c. absurd (c l) }

copy_tells : (f : List ℕ) (room : ℕ) → FileThen f (16 when room < length f else Grants) (after (copy_check f room) (granted []))
unfolding copy_check
copy_tells f room =
    let k = room_check (length f) room in
    let e : after (copy_check f room) (granted []) ≡ after (file_check f) (after k (granted [])) =
    ap (λ (x : Check). after (first x k) (granted [])) (read_check_is f) ∙ after_first (file_check f) k (granted []) in
    rw e (file_tells f (after k (granted [])) (λ e. tells_last _ (most_tests (length f) room) refl (λ e. refl)))

pub order_of_files : OfFiles
unfolding written_of reread_of copied_of
order_of_files =
    record {
      reading = λ f. rw (outcome_by (read_check_is f)) (file_tells f (granted []) (λ e. refl));
      writing = λ x note room. rw (outcome_by (written_check (write_check x note room) (length (file_of x note)))) (write_tells x note room);
      rereading = λ x note room. rw (outcome_by (reading_check (write_check x note room) (zeroed x) (length note))) (write_tells x note room);
      copying = λ f room. rw (outcome_by (written_check (copy_check f room) (length f))) (copy_tells f room);
      reporting = λ f. told_tells (TextIs f) text_most;
      explaining = λ f. told_tells (SaidIs f) said_most;
    }
