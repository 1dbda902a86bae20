-- `cycling` puts the cycle in order. Assumes nothing.
use Prim.Native.Nat.{ℕ}
use mathlib.Core.Path.{◌≡◌, ap, ◌∙◌}
use mathlib.Core.List.{List}
use Rattle.run.specs.Run.{playing}
use Rattle.spare.specs.Times.{start_order}
use Rattle.order.specs.Order.{place_in}
use Rattle.order.proofs.Orders.{named_same, ordered_few}
use Rattle.standing.proofs.Standings.{place_in_is}
use Rattle.spare.proofs.Calls.{cycling_is}
use Rattle.spare.proofs.cycling.Goals as goal

pub returns : goal.returns
returns c =
    let order_is : c.ordered-order.result ≡ start_order c.args.run = c.ordered-order.ensures
    ∙ ordered_few _ _ _ c.requires.sound_run.within.counts.sessions
    ∙ named_same _ _ (playing c.args.run) _
    (λ i l. ap (λ (p : List ℕ). place_in p i) c.requires.run_nonzero.1 ∙ place_in_is c.args.run i l) in
    cycling_is _ _ _ order_is c.left_in.ensures
