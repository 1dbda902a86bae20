-- `tried` refuses a show outside the limits, and otherwise tells whether the counts hold, with their times. Assumes nothing.
use mathlib.Core.Path.{sym, ◌∙◌}
use Rattle.show.specs.Limits.{ShowWithin}
use Rattle.show.proofs.Shows.{check_within}
use Rattle.trial.specs.Answers.{untried}
use Rattle.trial.proofs.Trials.{trial_told}
use Rattle.trial.proofs.tried.Goals as goal
use Rattle.trial.proofs.tried.Goals.{In_default}

-- The show is within its limits once 2, 5, 6 and 7 are past.
within : (c : In_default) → ShowWithin c.args.show
within c = check_within _ (sym c.check.ensures ∙ c.in_default.is)

pub returns-in-Err : goal.returns-in-Err
returns-in-Err c =
    untried _ (sym c.check.ensures ∙ c.in-Err.is)

pub added-round-requires : goal.added-round-requires
added-round-requires c =
    within (goal.at.added-round-requires c).In_default

pub all_held-requires : goal.all_held-requires
all_held-requires c =
    within (goal.at.all_held-requires c).In_default

pub returns : goal.returns
returns c =
    let w = within (goal.at.returns c).In_default in
    trial_told _ w _ _ _ c.added-round.ensures.0 c.added-round.ensures.1 _ c.all_held.ensures
