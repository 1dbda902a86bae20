-- What calls on a run answer by: docs/RULES.md, section 9.
use Rattle.std.specs.Prelude.{ℕ, Ok, Err, Some, None, Option}
use Rattle.std.proofs.Math.Decide.{dec_lt}
use Rattle.show.specs.Outcomes.{Check}
use Rattle.show.specs.declared.refusal.Refusal.TheVariants as refusal
use Rattle.show.specs.Checks.{unless}
use Rattle.run.specs.declared.Run.{Run}
use Rattle.run.specs.declared.Moved.{Moved}
use Rattle.run.specs.Run.{playing}

-- Granted, the next run; refused, the run that was given.
abbrev pub moved : Check → Run → Run → Moved
moved (Ok tt) r next = record { check = Ok tt; run = next }
moved (Err w) r next = record { check = Err w; run = r }

-- 9: no such session
abbrev pub present_check : Run → ℕ → Check
present_check r i = unless (dec_lt i (playing r)) refusal.NoSession

-- 13: a read is under way
abbrev pub free_check : Option ℕ → Check
free_check None = Ok tt
free_check (Some i) = Err refusal.ReadUnderway
