-- `unhex` fills from the front: the first i bytes stand there, and the rest is as it was. Assumes nothing.
use mathlib.Core.Path.{◌≡◌}
use mathlib.Core.List.{◌++◌}
use lib.ListN.{take, drop}
use Rattle.parse_numbers.specs.Bytes.{bytes_of}
use Rattle.parse_numbers.proofs.Puts.{list_of}
use Rattle.parse_numbers.proofs.unhex.Given as goal

abbrev pub invariant-loop-i : goal.invariant-loop-i
invariant-loop-i l = l.out ≡ take l.i (list_of (bytes_of l.text)) ++ drop l.i l.fn.out
