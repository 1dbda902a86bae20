-- `bytes` looks at each pair: the text is in hex where what is left of it is. Assumes nothing.
use lib.ListN.{length}
use Rattle.parse_numbers.proofs.Pairs.{SoFar}
use Rattle.parse_numbers.proofs.bytes.Given as goal

abbrev pub invariant-loop-high : goal.invariant-loop-high
invariant-loop-high l = SoFar l.text (length l.pairs) l.high-index
