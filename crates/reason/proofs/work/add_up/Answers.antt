-- `add_up` adds up session by session. Invariant: the sums of the first i. Assumes nothing.
use mathlib.Core.Path.{◌≡◌, ◌∙◌}
use Rattle.cost.specs.Costs.{cost_of}
use Rattle.cost.proofs.Costs.{cost_read}
use Rattle.reason.proofs.Loads.{sums_begun, sums_body}
use Rattle.reason.proofs.work.add_up.Goals as goal
use Rattle.reason.proofs.work.add_up.Goals.{After-of_read-cost}

cost : (c : After-of_read-cost) → c.of_read-cost.result ≡ cost_of c.args.show.now c.loop-i.i
cost c = c.of_read-cost.ensures ∙ cost_read _ _

pub loop-i-init : goal.loop-i-init
loop-i-init c =
    sums_begun _

pub loop-i-preserved : goal.loop-i-preserved
loop-i-preserved c =
    sums_body _ c.requires _ c.loop-i-test.true _ (cost (goal.at.loop-i-preserved c).After-of_read-cost) _ _ c.loop-i.invariant
