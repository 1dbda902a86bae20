-- Where writing stops, and with what: one law for each test, 2, 4, 5, 6, 7, 16. Assumes nothing.
use Rattle.std.specs.Prelude.{Ok, Err}
use Prim.Native.Nat.{ℕ, ◌≤◌, ◌<◌}
use mathlib.Core.Path.{◌≡◌, sym, ◌∙◌}
use mathlib.Core.List.{List}
use native.Mathlib.Omega.{arith}
use native.Mathlib.Decide.{dec_le}
use lib.ListN.{length}
use Rattle.show.specs.declared.Show.{Show}
use Rattle.show.specs.declared.refusal.Refusal.{Refusal}
use Rattle.show.specs.declared.refusal.Refusal.TheVariants.{Counts, NoteLength, BufferShort}
use Rattle.show.specs.Limits.{CountsWithin, ShowWithin}
use Rattle.show.specs.Decisions.{counts?}
use Rattle.show.specs.Checks.{show_check}
use Rattle.show.proofs.Checks.{unless_kept, unless_broken, first_refused, first_within}
use Rattle.show.proofs.Shows.{limits_left}
use Rattle.showfile.specs.File.{file_of}
use Rattle.showfile.specs.Checks.{note_most}
use Rattle.showfile_write.specs.Answers.{write_check}
use Rattle.showfile_write.proofs.Passed.{room_left}

module _ (x : Show) (note : List ℕ) (room : ℕ) where
  pub write_counts : (CountsWithin x.laid x.playing → ⊥) → Err Counts ≡ write_check x note room
  unfolding write_check
  write_counts h = sym (first_refused _ _ (unless_broken (counts? x.laid x.playing) Counts h))

  pub write_note : CountsWithin x.laid x.playing → (length note ≤ note_most → ⊥) → Err NoteLength ≡ write_check x note room
  unfolding write_check
  write_note c h =
      sym (first_within _ _ (unless_kept (counts? x.laid x.playing) Counts c)
      ∙ first_refused _ _ (unless_broken (dec_le (length note) note_most) NoteLength h))

  pub write_limits :
      CountsWithin x.laid x.playing → length note ≤ note_most → {w : Refusal} → show_check x ≡ Err w →
      Err w ≡ write_check x note room
  unfolding write_check
  write_limits c h e =
      sym (first_within _ _ (unless_kept (counts? x.laid x.playing) Counts c)
      ∙ first_within _ _ (unless_kept (dec_le (length note) note_most) NoteLength h)
      ∙ first_refused _ _ (sym (limits_left x c) ∙ e))

  module _ (within : ShowWithin x) (short : length note ≤ note_most) where
    pub write_short : room < length (file_of x note) → Err BufferShort ≡ write_check x note room
    write_short h =
        sym (room_left x note room within short
        ∙ unless_broken (dec_le (length (file_of x note)) room) BufferShort (λ (g : length (file_of x note) ≤ room). omega arith))

    pub write_within : length (file_of x note) ≤ room → (Ok tt) ≡ write_check x note room
    write_within h =
        sym (room_left x note room within short ∙ unless_kept (dec_le (length (file_of x note)) room) BufferShort h)
