-- `get_rows` fills a row from the front. Invariant: the first i records stand there, zeros above. Assumes nothing.
use mathlib.Core.Path.{◌≡◌}
use mathlib.Core.List.{[]}
use Rattle.show.specs.Lists.{padded}
use Rattle.showfile.specs.Bytes.{row_of}
use Rattle.showfile.proofs.rows.get_rows.Given as goal

abbrev pub invariant-loop-i : goal.invariant-loop-i
invariant-loop-i g l = let of = g.R.Row.of in l.out ≡ padded g.row.N (of []) (row_of of l.i l.s)
