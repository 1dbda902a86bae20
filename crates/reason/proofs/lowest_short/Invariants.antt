-- `lowest_short` looks for a count that does not fit. Invariant: those of the first i do. Assumes nothing.
use Rattle.reason.proofs.Reasons.{FitTo}
use Rattle.reason.proofs.lowest_short.Given as goal

abbrev pub invariant-loop-i : goal.invariant-loop-i
invariant-loop-i l = FitTo l.show l.counts l.i
