-- `edges` answers n/N rounded up. Assumes nothing.
use mathlib.Core.Path.{refl}
use Rattle.cost.specs.Bound.{ceil, edges}
use Rattle.cost.proofs.worst.edges.Goals as goal

pub returns : goal.returns
unfolding edges ceil
returns c =
    refl
