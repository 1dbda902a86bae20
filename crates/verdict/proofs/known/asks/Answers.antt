-- `asks` answers the least count that is ahead of a rate within its limits: there nothing is refused. Assumes nothing.
use mathlib.Core.Path.{◌∙◌}
use Rattle.count.proofs.Answers.{need_known}
use Rattle.verdict.proofs.known.asks.Goals as goal

pub returns : goal.returns
returns c =
    rw (c.need.ensures ∙ need_known _ _ _ c.requires.0 c.requires.1) at c.unwrap_or.ensures
