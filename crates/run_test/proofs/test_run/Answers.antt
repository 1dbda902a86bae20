-- `test_run` tells whether a run record is sound. Assumes nothing.
use mathlib.Core.Path.{sym, ◌∙◌}
use native.Mathlib.Omega.{arith}
use Rattle.show.proofs.Checks.{tells_yes}
use Rattle.run_test.proofs.Tests.{trial_good, trial_bad, holds_told, fails_told, states_more, states_all, test_sound, test_damaged}
use Rattle.run_test.proofs.test_run.Goals as goal

pub returns-then-not-unwrap_or : goal.returns-then-not-unwrap_or
returns-then-not-unwrap_or c =
    test_damaged _ (λ s. trial_bad _ _ _ c.tried.ensures (fails_told _ (sym c.unwrap_or.ensures ∙ c.if-not-unwrap_or.true)) s.within s.counts)

pub loop-i-preserved : goal.loop-i-preserved
loop-i-preserved c =
    states_more _ _ c.loop-i.invariant c.loop-i-test.true (tells_yes _ _ c.if-not-within.false c.within.ensures)

pub returns-then-is_cycle_sound : goal.returns-then-is_cycle_sound
returns-then-is_cycle_sound c =
    let g = trial_good _ _ _ c.tried.ensures (holds_told _ (sym c.unwrap_or.ensures ∙ c.if-not-unwrap_or.false)) in
    test_sound _
    (record {
      within = g.0;
      counts = g.1;
      states = states_all _ _ c.loop-i.invariant (omega arith);
      order = tells_yes _ _ c.if-names_each.true c.names_each.ensures;
      cycle = tells_yes _ _ c.if-is_cycle_sound.true c.is_cycle_sound.ensures;
    })
