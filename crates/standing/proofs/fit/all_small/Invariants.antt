-- `all_small` tries each session: the first i are small. Assumes nothing.
use Rattle.standing.specs.Standing.{SmallTo}
use Rattle.standing.proofs.fit.all_small.Given as goal

abbrev pub invariant-loop-i : goal.invariant-loop-i
invariant-loop-i l = SmallTo l.s l.i
