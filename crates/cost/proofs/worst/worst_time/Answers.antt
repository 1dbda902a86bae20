-- `worst_time` answers U of a session, or the first refusal of 2, 5, 6, 7 and 9. Assumes nothing.
use mathlib.Core.Path.{sym, ap, ◌∙◌}
use native.Mathlib.Omega.{arith}
use Rattle.std.proofs.lemmas.Result.{err_from_is_err_and}
use Rattle.show.specs.Limits.{ShowWithin}
use Rattle.show.proofs.Shows.{check_within}
use Rattle.cost.specs.declared.Cost.{Cost}
use Rattle.cost.specs.WorstTimes.{takes_of}
use Rattle.cost.proofs.Costs.{laid_below, cost_read, cost_limited}
use Rattle.cost.proofs.WorstTimes.{takes_known, worst_refused, worst_nobody, worst_takes}
use Rattle.cost.proofs.worst.worst_time.Goals.{In_ok-check}
use Rattle.cost.proofs.worst.worst_time.Goals as goal

within : (c : In_ok-check) → ShowWithin c.args.show
within c = check_within _ (sym c.check.ensures ∙ c.in_ok-check.was)

pub returns-in_err-check : goal.returns-in_err-check
returns-in_err-check c =
    let p = err_from_is_err_and c.from_residual.result c.from_residual.ensures.1 in
    rw (p.1, p.2) (sym (worst_refused _ _ _ (sym c.check.ensures ∙ c.in_err-check.was)))

pub returns-then-show-i : goal.returns-then-show-i
returns-then-show-i c =
    sym (worst_nobody _ _ _ (sym c.check.ensures ∙ c.in_ok-check.was) c.if-show-i.true)

pub offset_bounds-show-i : goal.offset_bounds-show-i
offset_bounds-show-i c =
    let h = (within (goal.at.offset_bounds-show-i c).In_ok-check).counts.sessions in omega arith

pub bounds-show-i : goal.bounds-show-i
bounds-show-i c =
    let h = (within (goal.at.bounds-show-i c).In_ok-check).counts.sessions in omega arith

pub bounds-show-at : goal.bounds-show-at
bounds-show-at c =
    let h = laid_below _ (within (goal.at.bounds-show-at c).In_ok-check) _ c.if-show-i.false in omega arith

pub returns : goal.returns
returns c =
    let w = within (goal.at.returns c).In_ok-check in
    c.takes.ensures
    ∙ ap (λ (x : Cost). takes_of x c.args.show.drive.cylinder c.args.n) (c.of_read-cost.ensures ∙ cost_read c.args.show c.args.i)
    ∙ takes_known _ _ _ w.drive.cylinder (cost_limited _ w _ c.if-show-i.false)
    ∙ sym (worst_takes _ _ _ (sym c.check.ensures ∙ c.in_ok-check.was) c.if-show-i.false)
