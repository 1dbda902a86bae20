-- The calculator's text, as bytes: docs/RULES.md, section 8. A refusal's line is in the crate `text`.
use Rattle.std.specs.Prelude.{ℕ, zero, suc, List, [], ◌++◌}
use Rattle.text.specs.Ascii.{ascii}
use Rattle.text.specs.Lines.{spaced, ended, two_line}
use Rattle.theory.specs.Counts.{Load, round_time, needed}

-- four numbers on a line
abbrev pub four_line : ℕ → ℕ → ℕ → ℕ → List ℕ
four_line a b c d = spaced a ++ (spaced b ++ (spaced c ++ ended d))

-- a session: its number, its count, U(count), the smallest buffer that takes the count
abbrev pub session_line : Load → (ℕ → ℕ) → ℕ → List ℕ
session_line l m i = four_line i (m i) ((l.stream i).time (m i)) (needed l i (m i))

-- the first n sessions
unfoldable pub session_lines : Load → (ℕ → ℕ) → ℕ → List ℕ
session_lines l m zero = []
session_lines l m (suc n) = session_lines l m n ++ session_line l m n

-- a show with its counts: `accepted`, the session count, L; then each session
abbrev pub accepted_text : Load → (ℕ → ℕ) → List ℕ
accepted_text l m = two_line (ascii "accepted ") l.playing (round_time l m) ++ session_lines l m l.playing
