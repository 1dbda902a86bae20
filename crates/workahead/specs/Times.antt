-- Workahead of a session in a state: docs/RULES.md, section 10.
use Rattle.std.specs.Prelude.{ℤ, pos, ◌-ℤ◌, ◌*ℤ◌}
use Rattle.show.specs.declared.Session.{Session}
use Rattle.theory.specs.Floor.{floor_z}
use Rattle.state.specs.declared.State.{State}

-- workahead: ((P - Y) x 1,000,000 - C) / R in µs, rounded down
abbrev pub ahead_by_state : Session → State → ℤ
ahead_by_state x s = floor_z ((pos s.put -ℤ pos x.cushion) *ℤ pos 1000000 -ℤ pos s.clock) x.rate
