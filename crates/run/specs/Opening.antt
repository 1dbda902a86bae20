-- Opening a show: docs/RULES.md, section 9.
use Rattle.std.specs.Prelude.{ℕ, ◌≡◌, false, List, replicate, Ok, Err, None}
use Rattle.show.specs.Outcomes.{Check}
use Rattle.show.specs.declared.Show.{Show}
use Rattle.show.specs.Limits.{no_show, session_at}
use Rattle.show.specs.Lists.{listed, padded}
use Rattle.verdict.specs.declared.Decision.{Decision}
use Rattle.verdict.specs.Answers.{DecisionIs}
use Rattle.state.specs.declared.State.{State}
use Rattle.state.specs.State.{no_state, first_state}
use Rattle.run.specs.declared.Run.{Run}
use Rattle.run.specs.declared.Opened.{Opened}
use Rattle.run.specs.Run.{left_in}

-- 0, 1, .., and zeros above
abbrev pub table_order : ℕ → List ℕ
table_order n = padded 16 0 (listed (λ i. i) n)

-- each session's first state, and zeros above
abbrev pub first_states : Show → List State
first_states s = padded 16 no_state (listed (λ i. first_state (session_at s i)) s.playing)

-- The cycle is in table order at its first session, where an operation is to begin; nothing is under way; not started.
unfoldable pub first_run : Show → List ℕ → Run
first_run s counts =
    record {
      show = s;
      counts = counts;
      states = first_states s;
      order = table_order s.playing;
      place = 0;
      left = left_in counts (table_order s.playing) 0;
      underway = None;
      started = false;
    }

-- zeros throughout
unfoldable pub no_run : Run
no_run = first_run no_show (replicate 16 0)

-- Accepted: the first run, with the counts decided. Refused: no run.
abbrev pub opened_by : Show → List ℕ → Check → Opened
opened_by s counts (Ok tt) = record { check = Ok tt; run = first_run s counts }
opened_by s counts (Err w) = record { check = Err w; run = no_run }

-- What opening answers, by what deciding does.
pub record OpenIs (s : Show) (o : Opened) : Type 0 where
  pub decision : Decision
  pub decides : DecisionIs s decision
  pub answers : o ≡ opened_by s decision.counts decision.verdict
