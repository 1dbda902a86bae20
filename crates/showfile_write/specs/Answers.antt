-- What writing answers, and what the buffer then holds: docs/RULES.md, section 6.
use Rattle.std.specs.Prelude.{ℕ, List, length}
use Rattle.std.proofs.Math.Decide.{dec_le}
use Rattle.show.specs.Outcomes.{Check}
use Rattle.show.specs.declared.Show.{Show}
use Rattle.show.specs.declared.refusal.Refusal.TheVariants.{BufferShort}
use Rattle.show.specs.Checks.{unless, first, counts_check, limits_check}
use Rattle.showfile.specs.declared.Written.{Written}
use Rattle.showfile.specs.File.{file_of}
use Rattle.showfile.specs.Checks.{note_check}
use Rattle.showfile.specs.Answers.{written, written_over}

-- 16: writer's buffer too short
abbrev pub room_check : ℕ → ℕ → Check
room_check size room = unless (dec_le size room) BufferShort

-- 2, 4, 5, 6, 7, 16
unfoldable pub write_check : Show → List ℕ → ℕ → Check
write_check x note room =
    first (counts_check x.laid x.playing)
    (first (note_check (length note)) (first (limits_check x) (room_check (length (file_of x note)) room)))

unfoldable pub written_of : Show → List ℕ → ℕ → Written
written_of x note room = written (write_check x note room) (length (file_of x note))

unfoldable pub buffer_of : Show → List ℕ → List ℕ → List ℕ
buffer_of x note b = written_over (write_check x note (length b)) (file_of x note) b
