-- A line a turn: what was put so far are the lines of the sessions before. Assumes nothing.
use Rattle.theory.specs.Shows.{load_of}
use Rattle.verdict.specs.Answers.{set_of}
use Rattle.report.specs.Text.{session_lines}
use Rattle.text.proofs.Puts.{PutTo}
use Rattle.report.proofs.put_sessions.Given as goal

abbrev pub invariant-loop-i : goal.invariant-loop-i
invariant-loop-i l = PutTo l.fn.out l.at (session_lines (load_of l.show) (set_of l.counts)) l.show.playing l.out l.i l.next
