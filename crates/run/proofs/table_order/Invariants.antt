-- `table_order` fills an order from the front: its first i places name themselves. Assumes nothing.
use mathlib.Core.Path.{◌≡◌}
use Rattle.run.specs.Opening.{table_order}
use Rattle.run.proofs.table_order.Given as goal

abbrev pub invariant-loop-i : goal.invariant-loop-i
invariant-loop-i l = l.order ≡ table_order l.i
