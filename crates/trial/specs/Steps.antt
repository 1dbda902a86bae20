-- What the private functions answer.
use Rattle.std.specs.Prelude.{ℕ, ◌*◌, ◌≤◌, ◌<◌}
use Rattle.show.specs.declared.Session.{Session}
use Rattle.theory.specs.Counts.{Load, Feasible}
use Rattle.theory.specs.Rounds.{need, asked}
use Rattle.count.specs.Answers.{Buffered}

-- A count has room, and is no less than what t asks for: so it is at least 1.
pub record Held (A : ℕ) (x : Session) (t m : ℕ) : Type 0 where
  pub room : Buffered A x m
  pub ahead : need x.rate (A * 1000000) t ≤ m

pub record Holds (l : Load) (t : ℕ) (m : ℕ → ℕ) : Type 0 where
  pub room : Feasible l m
  pub ahead : (i : ℕ) → i < l.playing → asked l t i ≤ m i
