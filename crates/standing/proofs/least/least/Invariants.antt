-- `least` finds the least: that of the first k places. Assumes nothing.
use Rattle.standing.proofs.Seats.{LeastTo}
use Rattle.standing.proofs.least.least.Given as goal

abbrev pub invariant-loop-k : goal.invariant-loop-k
invariant-loop-k l = LeastTo l.s l.seats l.sum l.least l.k
