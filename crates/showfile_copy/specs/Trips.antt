-- What both ways answer, there and back, and what the buffer then holds: docs/RULES.md, section 6.
use Rattle.std.specs.Prelude.{ℕ, List, length}
use Rattle.show.specs.Outcomes.{Check}
use Rattle.show.specs.declared.Show.{Show}
use Rattle.show.specs.Checks.{first}
use Rattle.showfile.specs.declared.Reading.{Reading}
use Rattle.showfile.specs.declared.Written.{Written}
use Rattle.showfile.specs.File.{zeroed}
use Rattle.showfile.specs.Answers.{reading, read_of, written, written_over}
use Rattle.showfile_write.specs.Answers.{room_check, write_check}

-- Reading what was written gives the same note and the same show, unused places zero.
unfoldable pub reread_of : Show → List ℕ → ℕ → Reading
reread_of x note room = reading (write_check x note room) (zeroed x) (length note)

-- Writing what was read gives the same bytes.
unfoldable pub copy_check : List ℕ → ℕ → Check
copy_check f room = first (read_of f).check (room_check (length f) room)

unfoldable pub copied_of : List ℕ → ℕ → Written
copied_of f room = written (copy_check f room) (length f)

unfoldable pub copy_of : List ℕ → List ℕ → List ℕ
copy_of f b = written_over (copy_check f (length b)) f b
