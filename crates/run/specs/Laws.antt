-- What is promised of every call on a run, in the words of the laws: docs/RULES.md, section 9.
use Rattle.std.specs.Prelude.{ℕ, ◌+◌, ◌*◌, ◌≤◌, ◌<◌, ◌≡◌, length}
use Rattle.theory.specs.Counts.{round_time}
use Rattle.theory.specs.Shows.{load_of}
use Rattle.verdict.specs.Answers.{set_of}
use Rattle.run.specs.declared.Run.{Run}
use Rattle.run.specs.Run.{playing, state_at, clip_at}

-- q is r but for states that play and the moment of the cycle: unused places are as they were.
pub record Kept (r q : Run) : Type 0 where
  pub show : q.show ≡ r.show
  pub counts : q.counts ≡ r.counts
  pub order : q.order ≡ r.order
  pub started : q.started ≡ r.started
  pub states : (i : ℕ) → playing r ≤ i → state_at q i ≡ state_at r i
  pub sized : length q.states ≡ length r.states

-- The workahead of a session is above L: P is above what R x L, Y and C come to, all in microbytes.
abbrev pub Ahead : Run → ℕ → Type 0
Ahead r i =
    (clip_at r i).rate * round_time (load_of r.show) (set_of r.counts) + ((clip_at r i).cushion * 1000000 + (state_at r i).clock)
    < (state_at r i).put * 1000000
