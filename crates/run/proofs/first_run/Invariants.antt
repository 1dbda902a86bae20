-- `first_run` fills the states from the front: the first i stand. Assumes nothing.
use Prim.Native.Nat.{ℕ}
use mathlib.Core.Path.{◌≡◌}
use mathlib.Core.List.{List}
use Rattle.show.specs.declared.Show.{Show}
use Rattle.show.specs.Limits.{session_at}
use Rattle.show.specs.Lists.{listed, padded}
use Rattle.state.specs.declared.State.{State}
use Rattle.state.specs.State.{no_state, first_state}
use Rattle.run.proofs.first_run.Given as goal

-- the state of session j, and the first i of them
abbrev pub at : Show → ℕ → State
at s j = first_state (session_at s j)

abbrev pub to : Show → ℕ → List State
to s i = padded 16 no_state (listed (at s) i)

abbrev pub invariant-loop-i : goal.invariant-loop-i
invariant-loop-i l = l.states ≡ to l.show l.i
