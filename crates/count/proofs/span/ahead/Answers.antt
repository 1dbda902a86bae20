-- `ahead` computes the least count ahead of a rate, and never forms the rate times the time. Assumes nothing.
use mathlib.Core.Path.{sym}
use Rattle.theory.proofs.Rounds.{need_split}
use Rattle.count.proofs.span.ahead.Goals as goal

pub returns : goal.returns
returns c =
    sym (need_split _ _ _ _ c.requires.1.some)
