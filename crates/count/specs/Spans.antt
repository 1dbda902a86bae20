-- What the private functions ask and answer.
use Rattle.std.specs.Prelude.{ℕ, ◌+◌, ◌*◌, ◌/◌, ◌%◌, ◌≤◌, ◌<◌}
use Rattle.show.specs.Limits.{block_most}
use Rattle.theory.specs.Rounds.{need}
use Rattle.count.specs.declared.span.Span.{Span}

-- t in units of D
abbrev pub span_of : ℕ → ℕ → Span
span_of D t = record { unit = D; whole = t / D; part = t % D }

-- A span whose parts, times a rate, fit 64 bits: that of every time of 64 bits.
pub record Short (p : Span) : Type 0 where
  pub some : 1 ≤ p.unit
  pub within : p.unit ≤ block_most * 1000000
  pub rest : p.part < p.unit
  pub many : p.whole ≤ 36028797018

-- the count that a session is asked for over a span
abbrev pub asked_of : ℕ → Span → ℕ
asked_of rate p = need rate p.unit (p.unit * p.whole + p.part)
