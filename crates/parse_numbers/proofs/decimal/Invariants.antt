-- `decimal` reads digit by digit: with n for the digits passed, the number is as before. Assumes nothing.
use Rattle.parse_numbers.proofs.Values.{SoFar}
use Rattle.parse_numbers.proofs.decimal.Given as goal

abbrev pub invariant-loop-b : goal.invariant-loop-b
invariant-loop-b l = SoFar l.text l.n l.b-index
