-- `table_order` fills an order from the front: its first i places name themselves. Assumes nothing.
use mathlib.Core.Path.{◌∙◌, ap}
use mathlib.Core.List.{List}
use Prim.Native.Nat.{ℕ}
use native.Mathlib.Omega.{arith}
use lib.ListN.{set}
use Rattle.show.proofs.Lists.{filled_none, filled_more}
use Rattle.run.proofs.table_order.Goals as goal

pub loop-i-init : goal.loop-i-init
loop-i-init c = filled_none 16 0 (λ i. i)

pub loop-i-preserved : goal.loop-i-preserved
loop-i-preserved c =
    ap (λ (o : List ℕ). set o c.loop-i.i c.loop-i.i) c.loop-i.invariant ∙ filled_more 16 0 (λ k. k) c.loop-i.i (omega arith)
