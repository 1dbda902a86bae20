-- `put_rows` writes a row from the front. Assumes nothing.
use mathlib.Core.Path.{◌≡◌}
use native.Mathlib.Omega.{arith}
use lib.ListN.{length}
use Prim.Native.Nat.{◌*◌}
use borrow.Author.Rules.{rules}
use Rattle.showfile_write.proofs.ByteLaws.{four_length, rest_over}
use Rattle.showfile_write.proofs.RowLaws.{written_none, written_more}
use Rattle.showfile_write.proofs.rows.put_rows.Goals as goal

pub loop-i-init : goal.loop-i-init
loop-i-init g c =
    written_none g.R.Row.bytes c.args.b.now c.args.row.now

pub loop-i-preserved : goal.loop-i-preserved
loop-i-preserved g c =
    let bytes = g.R.Row.bytes in
    let so_far = c.loop-i.invariant in
    let sixteen : length (bytes c.index-row-i.result) ≡ 16 = rw c.words.ensures (four_length _ _ _ _) in
    written_more bytes c.args.b.now c.loop-i.i c.args.row.now c.index-row-i.result c.loop-i-test.true (search rules) sixteen (omega arith)
    so_far.0 so_far.1 (rest_over _ (c.loop-i.i * 16) _ (rw c.words.ensures c.put_four.ensures))
