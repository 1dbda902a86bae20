-- `put_rows` writes a row from the front. Invariant: the first i records are written, sixteen bytes each. Assumes nothing.
use Prim.Native.Nat.{◌*◌}
use mathlib.Core.Path.{◌≡◌}
use lib.ListN.{length, take}
use Rattle.showfile.specs.Bytes.{row_bytes, over}
use Rattle.showfile_write.proofs.rows.put_rows.Given as goal

abbrev pub invariant-loop-i : goal.invariant-loop-i
invariant-loop-i g l =
    let written = row_bytes g.R.Row.bytes (take l.i l.row) in (l.b ≡ over l.initial.b 0 written) × (length written ≡ l.i * 16)
