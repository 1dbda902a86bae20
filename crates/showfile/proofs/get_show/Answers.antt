-- `get_show` reads the two rows; zeros are the record of no bytes. Assumes nothing.
use Prim.Native.Nat.{◌*◌}
use Rattle.std.proofs.lemmas.List.{take_rest}
use Rattle.showfile.specs.Bytes.{word_of}
use Rattle.showfile.specs.File.{layout_of, session_of, show_from}
use Rattle.showfile.proofs.get_show.Goals as goal

pub returns : goal.returns
unfolding show_from layout_of session_of word_of
returns c =
    let s = c.args.s.now in rw (c.get_rows.ensures, c.get_rows-2.ensures, take_rest s (c.args.t.laid * 16))
