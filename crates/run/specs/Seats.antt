-- What the code between the calls goes by. No promise rests on it.
use Rattle.std.specs.Prelude.{ℕ, ◌<◌}
use Rattle.show.specs.Limits.{Between}
use Rattle.run.specs.declared.Run.{Run}
use Rattle.run.specs.Run.{playing, seat_at}

-- A cycle that is somewhere, each of whose places names a session.
pub record Seated (r : Run) : Type 0 where
  pub some : Between 1 (playing r) 16
  pub place : r.place < playing r
  pub seats : (k : ℕ) → k < playing r → seat_at r k < playing r
