-- `lowest_short` looks for a count that does not fit. Invariant: those of the first i do. Assumes nothing.
use native.Mathlib.Omega.{arith}
use Rattle.reason.proofs.Reasons.{fit_broken, fit_ended}
use Rattle.reason.proofs.lowest_short.Goals as goal

pub returns-then-session-size : goal.returns-then-session-size
returns-then-session-size c =
    fit_broken _ c.requires.show_within _ c.requires.smallest _ c.loop-i.invariant c.loop-i-test.true (omega arith)

pub returns : goal.returns
returns c =
    fit_ended _ c.requires.show_within _ c.requires.smallest _ c.loop-i.invariant c.loop-i-test.false
