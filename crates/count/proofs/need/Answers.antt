-- `need` answers the least count ahead of a rate, or the first refusal of 5 and 7. Assumes nothing.
use Rattle.std.specs.Prelude.{Ok}
use mathlib.Core.Path.{sym, ap, ◌∙◌}
use Rattle.std.proofs.Common.{rules}
use Rattle.show.proofs.Checks.{tells_yes, tells_no}
use Rattle.count.specs.Answers.{BlockWithin, RateWithin}
use Rattle.count.proofs.Spans.{span_asked}
use Rattle.count.proofs.Answers.{need_unblocked, need_unrated, need_known}
use Rattle.count.proofs.need.Goals.{Else-not-block_within, Then-not-contains, Else-not-contains}
use Rattle.count.proofs.need.Goals as goal

blocked : (c : Else-not-block_within) → BlockWithin c.args.block
blocked c = tells_yes _ c.block_within.result c.if-not-block_within.false c.block_within.ensures

unrated : (c : Then-not-contains) → RateWithin c.args.rate → ⊥
unrated c = search rules

rated : (c : Else-not-contains) → RateWithin c.args.rate
rated c = search rules

pub returns-then-not-block_within : goal.returns-then-not-block_within
returns-then-not-block_within c =
    sym (need_unblocked _ _ _ (tells_no _ c.block_within.result c.if-not-block_within.true c.block_within.ensures))

pub returns-then-not-contains : goal.returns-then-not-contains
returns-then-not-contains c =
    sym (need_unrated _ _ _ (blocked (goal.at.returns-then-not-contains c).Else-not-block_within) (unrated c))

pub returns : goal.returns
returns c =
    let at = goal.at.returns c in
    ap Ok (c.ahead.ensures ∙ span_asked _ _ _ _ c.split-span.ensures)
    ∙ sym (need_known _ _ _ (blocked at.Else-not-block_within) (rated at.Else-not-contains))
