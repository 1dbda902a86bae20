-- `aheads` fills a row from the front: the first i workaheads stand there, zeros above. Assumes nothing.
use mathlib.Core.Path.{◌≡◌}
use lib.IntN.{pos}
use Rattle.show.specs.Lists.{listed, padded}
use Rattle.standing.specs.Times.{ahead_at}
use Rattle.standing.proofs.aheads.Given as goal

abbrev pub invariant-loop-i : goal.invariant-loop-i
invariant-loop-i l = l.aheads ≡ padded 16 (pos 0) (listed (ahead_at l.run) l.i)
