-- What the test of a run record answers.
use Rattle.std.specs.Prelude.{[]}
use Rattle.std.proofs.Math.Logic.{ite}
use Rattle.show.specs.declared.refusal.Refusal.TheVariants as refusal
use Rattle.show.specs.Outcomes.{Outcome, granted, refused_by}
use Rattle.run.specs.declared.Run.{Run}
use Rattle.run.specs.Decisions.{sound?}
use Rattle.run_test.specs.declared.Test.{Test}
use Rattle.run_test.specs.declared.Test.TheVariants.{Sound, Damaged}

abbrev pub test_of : Run → Test
test_of r = ite (sound? r) Sound Damaged

-- sound, or 19
abbrev pub test_outcome : Test → Outcome
test_outcome Sound = granted []
test_outcome Damaged = refused_by refusal.Damaged
