-- What reading answers; the form of what a writer answers, and of what its buffer then holds: docs/RULES.md, section 6.
use Rattle.std.specs.Prelude.{ℕ, ◌-◌, List, ◌++◌, length, take, drop, Ok, Err}
use Rattle.show.specs.Outcomes.{Check}
use Rattle.show.specs.declared.Show.{Show}
use Rattle.show.specs.Limits.{no_show}
use Rattle.show.specs.Checks.{first, limits_check}
use Rattle.showfile.specs.declared.trailer.Trailer.{Trailer}
use Rattle.showfile.specs.declared.Reading.{Reading}
use Rattle.showfile.specs.declared.Written.{Written}
use Rattle.showfile.specs.File.{trailer_of, show_from}
use Rattle.showfile.specs.Checks.{note_length, length_check, trailer_check}

-- ---- reading

-- a show and the length of its note; refused, zeros
abbrev pub reading : Check → Show → ℕ → Reading
reading (Ok tt) x n = record { check = Ok tt; show = x; note = n }
reading (Err w) x n = record { check = Err w; show = no_show; note = 0 }

-- the show of a file whose trailer t stands at `at`
abbrev pub shown_at : List ℕ → ℕ → Trailer → Show
shown_at f at t = show_from t (drop (note_length at t) f)

-- 1; 2, 3, 4; 5, 6, 7
unfoldable pub read_check : List ℕ → ℕ → Trailer → Check
read_check f at t = first (length_check (length f)) (first (trailer_check at t) (limits_check (shown_at f at t)))

unfoldable pub read_at : List ℕ → ℕ → Trailer → Reading
read_at f at t = reading (read_check f at t) (shown_at f at t) (note_length at t)

-- The trailer is the last twenty bytes.
unfoldable pub read_of : List ℕ → Reading
read_of f = read_at f (length f - 20) (trailer_of (drop (length f - 20) f))

-- the note of a file; refused, nothing
abbrev pub note_of : List ℕ → List ℕ
note_of f = take (read_of f).note f

-- ---- writing

-- how many bytes were written; refused, 0
abbrev pub written : Check → ℕ → Written
written (Ok tt) n = record { check = Ok tt; len = n }
written (Err w) n = record { check = Err w; len = 0 }

-- the bytes from the buffer's first, and every later byte as it was; refused, every byte as it was
abbrev pub written_over : Check → List ℕ → List ℕ → List ℕ
written_over (Ok tt) file b = file ++ drop (length file) b
written_over (Err w) file b = b
