-- What each call answers: docs/RULES.md, section 10.
use Rattle.std.specs.Prelude.{ℕ, ℤ, pos, Ok, Err}
use Rattle.std.proofs.Math.Logic.{ite}
use Rattle.std.proofs.Math.Decide.{dec_lt}
use Rattle.show.specs.Outcomes.{Check}
use Rattle.show.specs.declared.refusal.Refusal.TheVariants as refusal
use Rattle.show.specs.Checks.{unless, first}
use Rattle.theory.specs.Slack.{less?}
use Rattle.run.specs.declared.Run.{Run}
use Rattle.run.specs.Run.{playing}
use Rattle.state.specs.Decisions.{false?}
use Rattle.run.specs.Decisions.{sound_check}
use Rattle.run.specs.Answers.{moved, present_check, free_check}
use Rattle.run.specs.declared.Moved.{Moved}
use Rattle.standing.specs.Times.{ahead_at, slack_time}
use Rattle.spare.specs.declared.Spared.{Spared}
use Rattle.spare.specs.Times.{running}

-- A time, or why there is none; the run as it was given in either case.
abbrev pub spared : Check → ℤ → Run → Spared
spared (Ok tt) z r = record { spare = Ok z; run = r }
spared (Err w) z r = record { spare = Err w; run = r }

-- 19, 9
unfoldable pub workahead_of : Run → ℕ → Spared
workahead_of r i = spared (first (sound_check r) (present_check r i)) (ahead_at r i) r

-- 9: an empty show
abbrev pub some_check : Run → Check
some_check r = unless (dec_lt 0 (playing r)) refusal.NoSession

-- 19, 9
unfoldable pub slack_of : Run → Spared
slack_of r = spared (first (sound_check r) (some_check r)) (slack_time r) r

-- 18: already started
abbrev pub once_check : Run → Check
once_check r = unless (false? r.started) refusal.AlreadyStarted

-- 15: negative slack
unfoldable pub slack_check : Run → Check
slack_check r = ite (less? (slack_time r) (pos 0)) (Err refusal.NegativeSlack) (Ok tt)

-- 19, 18, 13, 9, 15
unfoldable pub start_check : Run → Check
start_check r =
    first (sound_check r) (first (once_check r) (first (free_check r.underway) (first (some_check r) (slack_check r))))

unfoldable pub start_of : Run → Moved
start_of r = moved (start_check r) r (running r)
