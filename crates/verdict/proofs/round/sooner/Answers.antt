-- `sooner` answers how long a round a session's buffer takes, or the end so far. Assumes nothing.
use native.Mathlib.Omega.{arith}
use Rattle.verdict.proofs.Ends.{most_capped, sooner_none, sooner_least}
use Rattle.verdict.proofs.round.sooner.Goals as goal

pub returns-then-buffer-taken : goal.returns-then-buffer-taken
returns-then-buffer-taken c =
    sooner_none _ _ c.requires _ c.if-buffer-taken.true

pub overflow_mul-last-2 : goal.overflow_mul-last-2
overflow_mul-last-2 c =
    omega (arith, most_capped _ _ c.requires)

pub overflow_add-last : goal.overflow_add-last
overflow_add-last c =
    omega (arith, most_capped _ _ c.requires)

pub returns : goal.returns
returns c =
    rw c.min.ensures (sooner_least _ _ c.requires _ c.if-buffer-taken.false)
