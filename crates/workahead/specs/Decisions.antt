-- Whether a state can be worked with is told: yes with the proof, or no with the proof that it cannot.
use Rattle.std.specs.Prelude.{◌*◌, ◌≤◌}
use Rattle.std.proofs.Math.Logic.Dec
use Rattle.std.proofs.Math.Decide.{dec_le}
use Rattle.state.specs.declared.State.{State}
use Rattle.state.specs.State.{put_most}

-- P and C within the limit on P: those of every run are.
abbrev pub Countable : State → Type 0
Countable s = (s.put ≤ put_most) × (s.clock ≤ put_most * 1000000)

unfoldable pub countable? : (s : State) → Dec (Countable s)
countable? s = Dec.and (dec_le _ _) (dec_le _ _)
