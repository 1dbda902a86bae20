-- `why` tests for overload, decides with the largest buffers, and looks for a count that does not fit its own. Assumes nothing.
use mathlib.Core.Path.{sym, ◌∙◌}
use native.Mathlib.Omega.{arith}
use Rattle.std.proofs.lemmas.Result.{err_from_is_err_and}
use Rattle.show.specs.Limits.{ShowWithin}
use Rattle.show.proofs.Shows.{check_within}
use Rattle.reason.specs.Answers.{outside}
use Rattle.reason.proofs.Reasons.{overloads, beyond_them, wide_counts}
use Rattle.reason.proofs.why.Goals as goal
use Rattle.reason.proofs.why.Goals.{In_ok-check}

-- The show is within its limits once 2, 5, 6 and 7 are past.
within : (c : In_ok-check) → ShowWithin c.args.show
within c = check_within _ (sym c.check.ensures ∙ c.in_ok-check.was)

pub returns-in_err-check : goal.returns-in_err-check
returns-in_err-check c =
    let p = err_from_is_err_and c.from_residual.result c.from_residual.ensures.1 in
    rw (p.1, p.2) (outside _ (sym c.check.ensures ∙ c.in_err-check.was))

pub weigh-work-requires : goal.weigh-work-requires
weigh-work-requires c =
    within (goal.at.weigh-work-requires c).In_ok-check

pub returns-then-work-ge1 : goal.returns-then-work-ge1
returns-then-work-ge1 c =
    let w = within (goal.at.returns-then-work-ge1 c).In_ok-check in
    overloads _ w _ c.weigh-work.ensures.0 c.weigh-work.ensures.1 (omega arith)

pub widest-requires : goal.widest-requires
widest-requires c =
    within (goal.at.widest-requires c).In_ok-check

pub returns-in_default : goal.returns-in_default
returns-in_default c =
    let w = within (goal.at.returns-in_default c).In_ok-check in
    beyond_them _ w _ c.weigh-work.ensures.0 c.weigh-work.ensures.1 (omega arith) _
    (rw c.widest.ensures at c.decide-decision.ensures) _ c.in_default.is

pub lowest_short-requires : goal.lowest_short-requires
lowest_short-requires c =
    let w = within (goal.at.lowest_short-requires c).In_ok-check in
    record {
      show_within = w;
      smallest = wide_counts _ _ (rw c.widest.ensures at c.decide-decision.ensures) c.in-Ok.is;
    }
