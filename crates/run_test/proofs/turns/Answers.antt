-- `turns` tells whether the cycle is at one of its places. Assumes nothing.
use native.Mathlib.Omega.{arith}
use Rattle.run.proofs.Orders.{names_below}
use Rattle.run_test.proofs.turns.Goals as goal

pub bounds-run-run-then-run : goal.bounds-run-run-then-run
bounds-run-run-then-run c = let b = names_below _ _ c.requires.names_each _ c.if-run.true in omega arith
