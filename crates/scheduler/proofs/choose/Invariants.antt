-- `choose` answers the next read, or Idle: the first k from the place on have no room. Assumes nothing.
use Rattle.scheduler.proofs.Cycles.{SkippedTo}
use Rattle.scheduler.proofs.choose.Given as goal

abbrev pub invariant-loop-k : goal.invariant-loop-k
invariant-loop-k l = SkippedTo l.run l.k
