-- `end_of` finds the first time over which a count does not fit. Invariant: the end of the first i sessions. Assumes nothing.
use Rattle.verdict.proofs.Ends.{EndTo}
use Rattle.verdict.proofs.round.end_of.Given as goal

abbrev pub invariant-loop-i : goal.invariant-loop-i
invariant-loop-i l = EndTo l.show l.end l.i
