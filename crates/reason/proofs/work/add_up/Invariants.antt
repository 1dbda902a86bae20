-- `add_up` adds up session by session. Invariant: the sums of the first i. Assumes nothing.
use Rattle.reason.proofs.Loads.{SumsTo}
use Rattle.reason.proofs.work.add_up.Given as goal

abbrev pub invariant-loop-i : goal.invariant-loop-i
invariant-loop-i l = SumsTo l.show l.blocks l.edges l.i
