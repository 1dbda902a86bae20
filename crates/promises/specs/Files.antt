-- A show written and read again is the same show, and a file read and written again the same bytes: docs/RULES.md, section 6.
-- proofs/Trips.antt proves both. The calls `reread` and `copy` of the crate `showfile_write` say the same of every show and every file.
use Rattle.std.specs.Prelude.{ℕ, ◌≤◌, ◌≡◌, List, length, Ok}
use Rattle.show.specs.declared.Show.{Show}
use Rattle.show.specs.Limits.{ShowWithin, Alike}
use Rattle.showfile.specs.Bytes.{Bytes}
use Rattle.showfile.specs.File.{file_of, zeroed}
use Rattle.showfile.specs.Checks.{note_most}
use Rattle.showfile.specs.Answers.{read_of, note_of}

-- a show as a program holds it
pub record Shaped (x : Show) : Type 0 where
  pub layouts : length x.layouts ≡ 8
  pub sessions : length x.sessions ≡ 16

-- Reading a written show gives the same note and show, unused places zero.
pub record ReadAgain (x : Show) (note : List ℕ) : Type 0 where
  pub granted : (read_of (file_of x note)).check ≡ Ok tt
  pub same_note : note_of (file_of x note) ≡ note
  pub same_show : (read_of (file_of x note)).show ≡ zeroed x
  pub alike : Alike x (zeroed x)

-- Writing what was read gives the same bytes.
pub record Trips : Type 0 where
  pub read_again : (x : Show) (note : List ℕ) → Shaped x → ShowWithin x → length note ≤ note_most → ReadAgain x note
  pub written_again : (f : List ℕ) → Bytes f → (read_of f).check ≡ Ok tt → file_of (read_of f).show (note_of f) ≡ f
