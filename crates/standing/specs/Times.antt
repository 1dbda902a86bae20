-- Workahead and slack of a run: docs/RULES.md, section 10.
use Rattle.std.specs.Prelude.{ℕ, ℤ}
use Rattle.theory.specs.Slack.{rank, slack}
use Rattle.theory.specs.Shows.{load_of}
use Rattle.run.specs.declared.Run.{Run}
use Rattle.run.specs.Run.{playing, state_at, clip_at, count_at}
use Rattle.workahead.specs.Times.{ahead_by_state}

-- workahead of a session of a run
abbrev pub ahead_at : Run → ℕ → ℤ
ahead_at r i = ahead_by_state (clip_at r i) (state_at r i)

-- U(M)
abbrev pub time_at : Run → ℕ → ℕ
time_at r i = ((load_of r.show).stream i).time (count_at r i)

-- slack, of a run with one session or more
abbrev pub slack_time : Run → ℤ
slack_time r = slack (ahead_at r) (time_at r) (playing r)

-- the place of a session in the order that slack uses
abbrev pub place_at : Run → ℕ → ℕ
place_at r i = rank (ahead_at r) (playing r) i
