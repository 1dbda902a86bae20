-- `check` answers the first refusal of 2, 5, 6 and 7. Invariants: no layout below i is refused, no session below k. Assumes nothing.
use Rattle.show.specs.Checks.{layout_check, session_check}
use Rattle.show.proofs.Checks.{SoFar}
use Rattle.show.proofs.Show.check.Given as goal

abbrev pub invariant-loop-i : goal.invariant-loop-i
invariant-loop-i l = SoFar (layout_check l.fn.self) l.fn.self.laid l.i

abbrev pub invariant-loop-k : goal.invariant-loop-k
invariant-loop-k l = SoFar (session_check l.fn.self) l.fn.self.playing l.k
