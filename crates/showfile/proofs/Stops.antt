-- Where reading stops, and with what: one law for each test. Assumes nothing.
use Rattle.std.specs.Prelude.{Ok, Err}
use Prim.Native.Nat.{ℕ, ◌-◌, ◌≤◌}
use mathlib.Core.Path.{◌≡◌, sym, ◌∙◌}
use mathlib.Core.List.{List}
use native.Mathlib.Decide.{dec_le}
use lib.ListN.{length, drop}
use Rattle.show.specs.declared.refusal.Refusal.{Refusal}
use Rattle.show.specs.declared.refusal.Refusal.TheVariants.{FileLength, Counts, Distances, NoteLength}
use Rattle.show.specs.Limits.{Between, CountsWithin, no_show}
use Rattle.show.specs.Decisions.{between?, counts?}
use Rattle.show.specs.Checks.{limits_check}
use Rattle.show.proofs.Checks.{unless_kept, unless_broken, first_refused, first_within}
use Rattle.showfile.specs.declared.trailer.Trailer.{Trailer}
use Rattle.showfile.specs.File.{trailer_of}
use Rattle.showfile.specs.Checks.{file_least, file_most, note_most, Distanced, distanced?, note_length, trailer_check}
use Rattle.showfile.specs.Answers.{reading, shown_at, read_check, read_at, read_of}

-- ---- a trailer: 2, 3, 4

module _ (at : ℕ) (t : Trailer) where
  pub trailer_counts : (CountsWithin t.laid t.playing → ⊥) → Err Counts ≡ trailer_check at t
  unfolding trailer_check
  trailer_counts h = sym (first_refused _ _ (unless_broken (counts? t.laid t.playing) Counts h))

  module _ (counts : CountsWithin t.laid t.playing) where
    pub trailer_distances : (Distanced at t → ⊥) → Err Distances ≡ trailer_check at t
    unfolding trailer_check
    trailer_distances h =
        sym (first_within _ _ (unless_kept (counts? t.laid t.playing) Counts counts)
        ∙ first_refused _ _ (unless_broken (distanced? at t) Distances h))

    pub trailer_note : Distanced at t → (note_length at t ≤ note_most → ⊥) → Err NoteLength ≡ trailer_check at t
    unfolding trailer_check
    trailer_note d h =
        sym (first_within _ _ (unless_kept (counts? t.laid t.playing) Counts counts)
        ∙ first_within _ _ (unless_kept (distanced? at t) Distances d)
        ∙ unless_broken (dec_le (note_length at t) note_most) NoteLength h)

-- ---- reading: 1; 2, 3, 4; 5, 6, 7

module _ (f : List ℕ) where
  pub read_length : (Between file_least (length f) file_most → ⊥) → reading (Err FileLength) no_show 0 ≡ read_of f
  unfolding read_of read_at read_check
  read_length h = rw (unless_broken (between? file_least (length f) file_most) FileLength h)

  module _ (size : Between file_least (length f) file_most) (t : Trailer) (last : t ≡ trailer_of (drop (length f - 20) f)) where
    pub read_trailer : {w : Refusal} → trailer_check (length f - 20) t ≡ Err w → reading (Err w) no_show 0 ≡ read_of f
    unfolding read_of read_at read_check
    read_trailer e = rw (← last, unless_kept (between? file_least (length f) file_most) FileLength size, e)

    pub read_rest :
        trailer_check (length f - 20) t ≡ Ok tt →
        reading (limits_check (shown_at f (length f - 20) t)) (shown_at f (length f - 20) t) (note_length (length f - 20) t) ≡ read_of f
    unfolding read_of read_at read_check
    read_rest e = rw (← last, unless_kept (between? file_least (length f) file_most) FileLength size, e)
