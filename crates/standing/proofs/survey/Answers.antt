-- `survey` tells how the sessions of a sound run stand. Assumes nothing.
use Rattle.standing.proofs.Standings.{trial_times, surveyed}
use mathlib.Core.Path.{◌∙◌}
use Rattle.order.proofs.Orders.{placed_few}
use Rattle.standing.proofs.survey.Goals as goal

pub returns : goal.returns
returns c =
    surveyed c.args.run.now _ _ _ c.aheads-aheads.ensures
    (trial_times c.args.run.now c.requires _ c.tried.ensures)
    (c.places-places.ensures ∙ placed_few _ _ c.requires.within.counts.sessions)
