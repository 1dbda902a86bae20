-- What a test that is passed says of a show that is to be written. Assumes nothing.
use Rattle.std.specs.Prelude.{Ok}
use Prim.Native.Nat.{ℕ, ◌≤◌}
use mathlib.Core.Path.{◌≡◌, ◌∙◌}
use mathlib.Core.List.{List}
use native.Mathlib.Decide.{dec_le}
use lib.ListN.{length}
use Rattle.show.specs.declared.Show.{Show}
use Rattle.show.specs.declared.refusal.Refusal.TheVariants.{Counts, NoteLength, BufferShort}
use Rattle.show.specs.Limits.{ShowWithin}
use Rattle.show.specs.Decisions.{counts?}
use Rattle.show.specs.Checks.{first, counts_check, limits_check}
use Rattle.show.proofs.Checks.{unless_kept, unless_within, first_within, first_left, first_right}
use Rattle.showfile.specs.File.{file_of}
use Rattle.showfile.specs.Checks.{note_most, note_check}
use Rattle.showfile.proofs.Passed.{limits_within, within_limits}
use Rattle.showfile_write.specs.Answers.{room_check, write_check}

-- a show and a note past 2, 4, 5, 6, 7 and 16
pub record Writable (x : Show) (note : List ℕ) (room : ℕ) : Type 0 where
  pub within : ShowWithin x
  pub short : length note ≤ note_most
  pub fits : length (file_of x note) ≤ room

pub check_writable : (x : Show) (note : List ℕ) (room : ℕ) → write_check x note room ≡ Ok tt → Writable x note room
unfolding write_check
check_writable x note room e =
    let c = counts_check x.laid x.playing in
    let n = note_check (length note) in
    let m = limits_check x in
    let r = room_check (length (file_of x note)) room in
    let past-counts = first_right c (first n (first m r)) e in
    let past-note = first_right n (first m r) past-counts in
    let counts = unless_within (counts? x.laid x.playing) Counts (first_left c (first n (first m r)) e) in
    record {
      within = limits_within x counts (first_left m r past-note);
      short = unless_within (dec_le (length note) note_most) NoteLength (first_left n (first m r) past-counts);
      fits = unless_within (dec_le (length (file_of x note)) room) BufferShort (first_right m r past-note);
    }

-- a show and a note past all but 16
pub room_left :
    (x : Show) (note : List ℕ) (room : ℕ) → ShowWithin x → length note ≤ note_most →
    write_check x note room ≡ room_check (length (file_of x note)) room
unfolding write_check
room_left x note room w h =
    first_within _ _ (unless_kept (counts? x.laid x.playing) Counts w.counts)
    ∙ first_within _ _ (unless_kept (dec_le (length note) note_most) NoteLength h)
    ∙ first_within _ _ (within_limits x w)
