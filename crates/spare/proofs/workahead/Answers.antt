-- `workahead` answers that of one session. Assumes nothing.
use Rattle.run_test.proofs.Tests.{tested_sound}
use Rattle.spare.proofs.Calls.{workahead_for}
use Rattle.spare.proofs.workahead.Goals as goal

pub returns : goal.returns
returns c =
    workahead_for _ _ (tested_sound _ _ c.test_run.ensures c.in-Sound.is) _ c.if-run-session.false c.ahead_of.ensures
