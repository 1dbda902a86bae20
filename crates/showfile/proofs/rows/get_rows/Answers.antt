-- `get_rows` fills a row from the front; no bytes are a record of zeros. Assumes nothing.
use Prim.Native.Nat.{◌*◌}
use mathlib.Core.Path.{refl}
use mathlib.Core.List.{[]}
use native.Mathlib.Omega.{arith}
use Rattle.std.proofs.lemmas.List.{take_rest}
use Rattle.showfile.specs.Bytes.{word_of}
use Rattle.showfile.proofs.RowLaws.{row_none, row_more}
use Rattle.showfile.proofs.rows.get_rows.Goals as goal

pub loop-i-init : goal.loop-i-init
unfolding word_of
loop-i-init g c =
    let of = g.R.Row.of in rw (c.from_words-out.ensures [] refl) (row_none of g.row.N (of []) c.args.s.now)

pub loop-i-preserved : goal.loop-i-preserved
loop-i-preserved g c =
    let of = g.R.Row.of in
    let s = c.args.s.now in
    rw (c.loop-i.invariant, c.get_row.ensures, take_rest s (c.loop-i.i * 16))
    (row_more of g.row.N c.loop-i.i s (of []) (omega arith))
