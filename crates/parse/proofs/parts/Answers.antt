-- `parts` counts the marks. The invariant: n is one more than the marks before byte i. Assumes nothing.
use Rattle.std.proofs.Common.{◌∙◌}
use Rattle.std.proofs.lemmas.List.{take_all}
use native.Mathlib.Omega.{arith}
use Rattle.parse.proofs.Chains.{parts_count}
use Rattle.parse.proofs.parts.Goals as goal

pub returns : goal.returns
returns c =
    let e = take_all c.loop-b.b-index c.args.text.now (omega arith) in
    c.loop-b.invariant ∙ rw e (parts_count c.args.mark c.args.text.now)
