-- What the code between the calls goes by, on the parts of a run. No promise rests on it.
use Rattle.std.specs.Prelude.{ℕ, ◌+◌, ◌-◌, ◌%◌}
use Rattle.std.proofs.Math.Logic.{ite}
use Rattle.std.proofs.Math.Decide.{dec_le}

-- the place and what is left there after a block
abbrev pub place_after : ℕ → ℕ → ℕ → ℕ
place_after place left playing = ite (dec_le left 1) ((place + 1) % playing) place

abbrev pub counted_off : ℕ → ℕ → ℕ
counted_off left fresh = ite (dec_le left 1) fresh (left - 1)
