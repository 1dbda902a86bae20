-- `first_run` fills the states from the front: the first i stand. Assumes nothing.
use mathlib.Core.Path.{ap, ◌∙◌}
use mathlib.Core.List.{List}
use native.Mathlib.Omega.{arith}
use lib.ListN.{set}
use Rattle.show.proofs.Lists.{filled_none, filled_more}
use Rattle.state.specs.declared.State.{State}
use Rattle.state.specs.State.{no_state}
use Rattle.run.proofs.first_run.Goals as goal
use Rattle.run.proofs.first_run.Invariants.{at}

pub loop-i-init : goal.loop-i-init
loop-i-init c = filled_none 16 no_state (at c.args.show)

pub loop-i-preserved : goal.loop-i-preserved
loop-i-preserved c =
    rw c.first_state.ensures
    (ap (λ (o : List State). set o c.loop-i.i (at c.args.show c.loop-i.i)) c.loop-i.invariant
    ∙ filled_more 16 no_state (at c.args.show) c.loop-i.i (omega arith))
