-- `takes` answers U of a cost, or the first refusal of 5 and 6. Assumes nothing.
use Rattle.std.specs.Prelude.{Ok}
use mathlib.Core.Path.{sym, ap, ◌∙◌}
use Rattle.std.proofs.Common.{rules}
use Rattle.show.specs.Limits.{Between}
use Rattle.show.proofs.Checks.{tells_yes, tells_no}
use Rattle.cost.specs.Bound.{Limited}
use Rattle.cost.proofs.WorstTimes.{takes_undriven, takes_unlimited, takes_known}
use Rattle.cost.proofs.Cost.takes.Goals.{Then-not-contains, Else-not-contains, Else-not-limited}
use Rattle.cost.proofs.Cost.takes.Goals as goal

driven : (c : Else-not-contains) → Between 1 c.args.cylinder 65536
driven c = search rules

limited : (c : Else-not-limited) → Limited c.args.self
limited c = tells_yes _ c.limited.result c.if-not-limited.false c.limited.ensures

undriven : (c : Then-not-contains) → Between 1 c.args.cylinder 65536 → ⊥
undriven c = search rules

pub returns-then-not-contains : goal.returns-then-not-contains
returns-then-not-contains c =
    sym (takes_undriven _ _ _ (undriven c))

pub returns-then-not-limited : goal.returns-then-not-limited
returns-then-not-limited c =
    sym (takes_unlimited _ _ _ (driven (goal.at.returns-then-not-limited c).Else-not-contains)
    (tells_no _ c.limited.result c.if-not-limited.true c.limited.ensures))

pub returns : goal.returns
returns c =
    let at = goal.at.returns c in
    ap Ok c.time_of.ensures ∙ sym (takes_known _ _ _ (driven at.Else-not-contains) (limited at.Else-not-limited))
