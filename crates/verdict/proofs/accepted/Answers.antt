-- `accepted` answers what a settled time asks for, with the times. Invariant: the counts and the times of the first i sessions stand
-- there. What falls: playing - i. Assumes nothing.
use mathlib.Core.Path.{◌∙◌, ap}
use Rattle.show.proofs.Lists.{filled_none}
use Rattle.theory.specs.Shows.{load_of}
use Rattle.verdict.proofs.Sets.{row_begun, row_body, times_begun, times_body, time_same}
use Rattle.verdict.proofs.accepted.Goals as goal

pub loop-i-init : goal.loop-i-init
loop-i-init c =
    (row_begun _ _ _ (filled_none 16 0 _), times_begun _ _ _ (filled_none 16 0 _))

pub loop-i-preserved : goal.loop-i-preserved
loop-i-preserved c = (
  row_body _ _ _ _ _ c.requires.show_within c.loop-i.invariant.0 c.loop-i-test.true c.asks-count.ensures,
  times_body _ _ _ _ _ _ c.requires.show_within c.loop-i.invariant.1 c.loop-i-test.true
      (c.takes-time.ensures.0 ∙ time_same _ _ _ ∙ ap ((load_of _).stream _).time c.asks-count.ensures) c.takes-time.ensures.1,
)
