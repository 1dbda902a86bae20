-- What each call answers: docs/RULES.md, section 9.
use Rattle.std.specs.Prelude.{ℕ, Ok, Err, Some, None, Option}
use Rattle.std.proofs.Math.Decide.{dec_le}
use Rattle.show.specs.Outcomes.{Check}
use Rattle.show.specs.declared.refusal.Refusal.TheVariants as refusal
use Rattle.show.specs.Checks.{unless, first}
use Rattle.run.specs.declared.Run.{Run}
use Rattle.run.specs.Run.{span_most, state_at}
use Rattle.run.specs.declared.Moved.{Moved}
use Rattle.run.specs.Decisions.{sound_check}
use Rattle.run.specs.Answers.{moved, present_check}
use Rattle.run.specs.Steps.{passed, drawn_at, landed}
use Rattle.player.specs.Answers.{early_check, held_check}

-- ---- pass

-- 11: d over 1,000,000,000
abbrev pub span_check : ℕ → Check
span_check d = unless (dec_le d span_most) refusal.TooLong

-- 19, 11
unfoldable pub pass_check : Run → ℕ → Check
pass_check r d = first (sound_check r) (span_check d)

unfoldable pub pass_of : Run → ℕ → Moved
pass_of r d = moved (pass_check r d) r (passed r d)

-- ---- take

-- 19, 9, 12, 10: the last two as the player's own take tests them
unfoldable pub take_check : Run → ℕ → ℕ → Check
take_check r i n = first (sound_check r) (first (present_check r i) (first (early_check r.started) (held_check (state_at r i) n)))

unfoldable pub take_of : Run → ℕ → ℕ → Moved
take_of r i n = moved (take_check r i n) r (drawn_at r i n)

-- ---- finish

-- 17: nothing under way
abbrev pub busy_check : Option ℕ → Check
busy_check None = Err refusal.NothingUnderway
busy_check (Some i) = Ok tt

-- 19, 11, 17
unfoldable pub finish_check : Run → ℕ → Check
finish_check r d = first (sound_check r) (first (span_check d) (busy_check r.underway))

-- the block of the session under way
abbrev pub landed_for : Option ℕ → Run → Run
landed_for None r = r
landed_for (Some i) r = landed r i

-- d µs pass, then the block has come.
unfoldable pub finish_of : Run → ℕ → Moved
finish_of r d = moved (finish_check r d) r (landed_for r.underway (passed r d))
