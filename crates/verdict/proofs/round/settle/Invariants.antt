-- `settle` finds the least time that sustains. Invariant of the loop: t is the sum of the times so far and at most every such time; of
-- the inner one: the counts of the first i sessions are ahead over the time that the turn began at. What falls: end - t.
-- Assumes nothing.
use Prim.Native.Nat.{◌-◌}
use Rattle.verdict.proofs.Turns.{Search, TurnTo}
use Rattle.verdict.proofs.round.settle.Given as goal

abbrev pub invariant-loop-i-2 : goal.invariant-loop-i-2
invariant-loop-i-2 l = TurnTo l.show l.end l.before l.covered l.times l.t l.i

abbrev pub invariant-loop-i : goal.invariant-loop-i
invariant-loop-i l = Search l.show l.end l.covered l.times l.t

abbrev pub decreases-loop-i : goal.decreases-loop-i
decreases-loop-i l = l.end - l.t
