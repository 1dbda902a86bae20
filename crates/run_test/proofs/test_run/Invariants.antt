-- `test_run` tells whether a run record is sound: the first i states are. Assumes nothing.
use Rattle.run_test.proofs.Tests.{StatesTo}
use Rattle.run_test.proofs.test_run.Given as goal

abbrev pub invariant-loop-i : goal.invariant-loop-i
invariant-loop-i l = StatesTo l.run l.i
