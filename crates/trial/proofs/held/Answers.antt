-- `held` tells whether a count fits and is ahead of its rate: a rate within its limits is not refused. Assumes nothing.
use mathlib.Core.Path.{◌≡◌, ◌∙◌}
use Prim.Native.Nat.{◌*◌}
use Rattle.theory.specs.Rounds.{need}
use Rattle.count.proofs.Answers.{need_known}
use Rattle.trial.proofs.Trials.{held_tells}
use Rattle.trial.proofs.held.Goals.{After-unwrap_or}
use Rattle.trial.proofs.held.Goals as goal

least : (c : After-unwrap_or) → c.unwrap_or.result ≡ need c.args.session.rate (c.args.block * 1000000) c.args.t
least c = rw (c.need.ensures ∙ need_known _ _ _ c.requires.0 c.requires.1) at c.unwrap_or.ensures

pub returns-then-fits : goal.returns-then-fits
returns-then-fits c =
    held_tells c.args.block c.args.session c.args.t c.args.count _ c.if-fits.ensures (least (goal.at.returns-then-fits c).After-unwrap_or)
