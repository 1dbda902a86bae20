-- `take` hands a session's state to the player's take, and its answer on. Assumes nothing.
use Rattle.run_test.proofs.Tests.{tested_sound}
use Rattle.playback.proofs.Calls.{take_next}
use Rattle.playback.proofs.take.Goals as goal

pub returns : goal.returns
returns c =
    take_next _ _ _ (tested_sound _ _ c.test_run.ensures c.in-Sound.is) c.if-run-session.false _ c.take_from-drawn.ensures
