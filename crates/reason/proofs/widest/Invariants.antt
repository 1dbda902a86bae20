-- `widest` fills a row of sessions. Invariant: the first i stand there, zeros above. Assumes nothing.
use Rattle.reason.proofs.Wide.{WideTo}
use Rattle.reason.proofs.widest.Given as goal

abbrev pub invariant-loop-i : goal.invariant-loop-i
invariant-loop-i l = WideTo l.show l.sessions l.i
