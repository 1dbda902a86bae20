-- What it is to make a load lighter: leave sessions out; lower rates, cushions and times; raise buffers.
use Rattle.std.specs.Prelude.{ℕ, ◌≤◌, ◌<◌, ◌≡◌}
use Rattle.theory.specs.Counts.{Stream, Load}

-- c is no harder to serve than d.
pub record Light (c d : Stream) : Type 0 where
  pub rate : c.rate ≤ d.rate
  pub cushion : c.cushion ≤ d.cushion
  pub buffer : d.buffer ≤ c.buffer
  pub time : (n : ℕ) → c.time n ≤ d.time n

-- Session i of a is session e i of b, no harder; b's other sessions are left out.
pub record Lighter (a b : Load) (e : ℕ → ℕ) : Type 0 where
  pub block : a.block ≡ b.block
  pub inside : (i : ℕ) → i < a.playing → e i < b.playing
  pub rising : (i j : ℕ) → i < j → j < a.playing → e i < e j
  pub stream : (i : ℕ) → i < a.playing → Light (a.stream i) (b.stream (e i))
