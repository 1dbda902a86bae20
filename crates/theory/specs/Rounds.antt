-- Round times, which lead to the smallest set: proofs/Rounds.antt says how.
use Rattle.std.specs.Prelude.{ℕ, zero, suc, ◌+◌, ◌*◌, ◌/◌, ◌≤◌}
use Rattle.theory.specs.Counts.{Load, unit, round_time, Feasible}

-- The least m with m x D > R x t: R x t / D rounded down, plus 1
unfoldable pub need : ℕ → ℕ → ℕ → ℕ
need rate D t = rate * t / D + 1

-- The counts that a round of t µs asks for.
abbrev pub asked : Load → ℕ → ℕ → ℕ
asked l t i = need (l.stream i).rate (unit l) t

-- How long the round of those counts is: the next time to try.
abbrev pub next : Load → ℕ → ℕ
next l t = round_time l (asked l t)

-- k turns from t, by which a least time is found.
unfoldable pub turns : Load → ℕ → ℕ → ℕ
turns l zero t = t
turns l (suc k) t = turns l k (next l t)

-- A round of t µs is long enough for what it asks for ..
abbrev pub Sustains : Load → ℕ → Type 0
Sustains l t = next l t ≤ t

-- .. and what it asks for fits the buffers.
abbrev pub Fits : Load → ℕ → Type 0
Fits l t = Feasible l (asked l t)

-- No time that sustains is below t.
abbrev pub NotPast : Load → ℕ → Type 0
NotPast l t = (x : ℕ) → Sustains l x → t ≤ x

-- The least round time that sustains.
pub record LeastTime (l : Load) (t : ℕ) : Type 0 where
  pub sustains : Sustains l t
  pub least : NotPast l t
