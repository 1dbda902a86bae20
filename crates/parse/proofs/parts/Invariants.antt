-- `parts` counts the marks. The invariant: n is one more than the marks before byte i. Assumes nothing.
use Rattle.std.proofs.Common.{◌≡◌, ◌+◌, take}
use Rattle.std.specs.List.{count_by}
use lib.Dec.{eqb}
use Rattle.parse.proofs.parts.Given as goal

abbrev pub invariant-loop-b : goal.invariant-loop-b
invariant-loop-b l = l.n ≡ 1 + count_by (λ b. eqb b l.mark) (take l.b-index l.text)
