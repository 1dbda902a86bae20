-- What a test that is passed says of a file's trailer, and of its show. Assumes nothing.
use Rattle.std.specs.Prelude.{Ok}
use Prim.Native.Nat.{ℕ, ◌≤◌}
use mathlib.Core.Path.{◌≡◌, sym, ◌∙◌}
use native.Mathlib.Decide.{dec_le}
use Rattle.show.specs.declared.Show.{Show}
use Rattle.show.specs.declared.refusal.Refusal.TheVariants.{Counts, Distances, NoteLength}
use Rattle.show.specs.Limits.{CountsWithin, ShowWithin}
use Rattle.show.specs.Decisions.{counts?}
use Rattle.show.specs.Checks.{first, counts_check, limits_check}
use Rattle.show.proofs.Checks.{unless_kept, unless_within, first_within, first_left, first_right}
use Rattle.show.proofs.Shows.{check_within, within_check, limits_left}
use Rattle.showfile.specs.declared.trailer.Trailer.{Trailer}
use Rattle.showfile.specs.Checks.{note_most, Distanced, distanced?, note_length, distances_check, note_check, trailer_check}

-- the trailer t at `at`, past 2, 3 and 4
pub record Framed (at : ℕ) (t : Trailer) : Type 0 where
  pub counts : CountsWithin t.laid t.playing
  pub distances : Distanced at t
  pub note : note_length at t ≤ note_most

pub check_framed : (at : ℕ) (t : Trailer) → trailer_check at t ≡ Ok tt → Framed at t
unfolding trailer_check
check_framed at t e =
    let c = counts_check t.laid t.playing in
    let d = distances_check at t in
    let n = note_check (note_length at t) in
    let rest = first_right c (first d n) e in
    record {
      counts = unless_within (counts? t.laid t.playing) Counts (first_left c (first d n) e);
      distances = unless_within (distanced? at t) Distances (first_left d n rest);
      note = unless_within (dec_le (note_length at t) note_most) NoteLength (first_right d n rest);
    }

pub framed_check : (at : ℕ) (t : Trailer) → Framed at t → trailer_check at t ≡ Ok tt
unfolding trailer_check
framed_check at t f =
    first_within _ _ (unless_kept (counts? t.laid t.playing) Counts f.counts)
    ∙ first_within _ _ (unless_kept (distanced? at t) Distances f.distances)
    ∙ unless_kept (dec_le (note_length at t) note_most) NoteLength f.note

-- a show past 5, 6 and 7, where 2 is passed
pub limits_within : (x : Show) → CountsWithin x.laid x.playing → limits_check x ≡ Ok tt → ShowWithin x
limits_within x c e = check_within x (limits_left x c ∙ e)

pub within_limits : (x : Show) → ShowWithin x → limits_check x ≡ Ok tt
within_limits x w = sym (limits_left x w.counts) ∙ within_check x w
