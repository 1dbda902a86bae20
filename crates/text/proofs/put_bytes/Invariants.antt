-- One byte a turn: what was put so far is what the word begins with. Assumes nothing.
use Prim.Native.Nat.{◌+◌}
use lib.ListN.{length, take}
use Rattle.text.proofs.Puts.{PutTo}
use Rattle.text.proofs.put_bytes.Given as goal

abbrev pub invariant-loop-i : goal.invariant-loop-i
invariant-loop-i l = PutTo l.initial.out l.at (λ k. take k l.fn.word) (length l.fn.word) l.out l.i (l.at + l.i)
