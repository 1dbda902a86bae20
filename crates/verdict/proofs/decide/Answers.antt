-- `decide` refuses a show outside the limits, and otherwise answers by the least time that sustains. Assumes nothing.
use mathlib.Core.Path.{sym, ◌∙◌, subst}
use Rattle.show.specs.Limits.{ShowWithin}
use Rattle.show.proofs.Shows.{check_within}
use Rattle.theory.proofs.Rounds.{least_smallest}
use Rattle.theory.proofs.Shows.{show_sound}
use Rattle.verdict.specs.Answers.{DecisionIs, accepted, no_set, outside}
use Rattle.verdict.specs.Steps.{Settled}
use Rattle.verdict.proofs.decide.Goals as goal
use Rattle.verdict.proofs.decide.Goals.{In_default}

-- The show is within its limits once 2, 5, 6 and 7 are past.
within : (c : In_default) → ShowWithin c.args.show
within c = check_within _ (sym c.check.ensures ∙ c.in_default.is)

pub returns-in-Err : goal.returns-in-Err
returns-in-Err c =
    subst (DecisionIs _) (sym c.refused.ensures) (outside _ (sym c.check.ensures ∙ c.in-Err.is))

pub settle-requires : goal.settle-requires
settle-requires c =
    within (goal.at.settle-requires c).In_default

pub returns-in_default-settle : goal.returns-in_default-settle
returns-in_default-settle c =
    subst (DecisionIs _) (sym c.refused-in_default-settle.ensures)
    (no_set (within (goal.at.returns-in_default-settle c).In_default) c.in_default-settle.ensures)

pub accepted-requires-clause-show_within : goal.accepted-requires-clause-show_within
accepted-requires-clause-show_within c =
    within (goal.at.accepted-requires-clause-show_within c).In_default

pub returns : goal.returns
returns c =
    let w = within (goal.at.returns c).In_default in
    let h : Settled c.args.show c.in-Some.t = c.in-Some.ensures in
    subst (DecisionIs _) (sym c.accepted.ensures) (accepted _ w (least_smallest _ (show_sound _ w) _ h.least h.fits))
