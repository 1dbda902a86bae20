-- `end_of` finds the first time over which a count does not fit. Invariant: the end of the first i sessions. Assumes nothing.
use Rattle.verdict.proofs.Ends.{can_last, end_begun, end_body, end_ended}
use Rattle.verdict.proofs.round.end_of.Goals as goal

pub loop-i-init : goal.loop-i-init
loop-i-init c =
    end_begun _ c.requires

pub sooner-end-requires : goal.sooner-end-requires
sooner-end-requires c =
    can_last _ c.requires _ c.loop-i-test.true

pub loop-i-preserved : goal.loop-i-preserved
loop-i-preserved c =
    end_body _ c.requires _ _ _ c.loop-i.invariant c.loop-i-test.true c.sooner-end.ensures

pub returns : goal.returns
returns c =
    end_ended _ c.requires _ _ c.loop-i.invariant c.loop-i-test.false
