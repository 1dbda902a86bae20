-- `slack` answers what the standing of the run has to spare. Assumes nothing.
use mathlib.Core.Path.{ap, ◌∙◌}
use Rattle.run.specs.Sound.{SoundRun}
use Rattle.standing.specs.Answers.{slack_for}
use Rattle.standing.proofs.Calls.{stood_sound, stood_standing}
use Rattle.spare.proofs.Calls.{slack_stood}
use Rattle.spare.proofs.slack.Goals as goal

pub returns : goal.returns
returns c =
    let sound : SoundRun c.args.run = stood_sound _ _ c.stand-stood.ensures c.in_default.is in
    slack_stood _ sound _ (c.slack_in.ensures ∙ ap slack_for (stood_standing _ sound _ c.stand-stood.ensures))
