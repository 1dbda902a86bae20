-- `widest` fills a row of sessions. Invariant: the first i stand there, zeros above. Assumes nothing.
use mathlib.Core.Path.{refl}
use native.Mathlib.Omega.{arith}
use Rattle.show.specs.Limits.{no_session}
use Rattle.show.proofs.Lists.{filled_none}
use Rattle.reason.proofs.Wide.{wide_body}
use Rattle.reason.proofs.widest.Goals as goal

pub loop-i-init : goal.loop-i-init
loop-i-init c =
    record { inside = omega arith; row = rw c.nothing.ensures (filled_none 16 no_session _) }

pub loop-i-preserved : goal.loop-i-preserved
loop-i-preserved c =
    wide_body _ c.requires _ _ _ c.loop-i.invariant c.loop-i-test.true refl
