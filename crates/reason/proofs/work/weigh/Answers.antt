-- `weigh` divides the load by the two sums. Assumes nothing.
use Rattle.reason.proofs.Loads.{weighed}
use Rattle.reason.proofs.work.weigh.Goals as goal

pub returns : goal.returns
returns c =
    weighed _ c.requires _ c.add_up-sums.ensures.1 c.add_up-sums.ensures.0
