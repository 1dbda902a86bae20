-- `advance` moves each clock on: the first i have gone on. Assumes nothing.
use mathlib.Core.Path.{◌≡◌}
use Rattle.run.specs.Steps.{changed, ticked_at}
use Rattle.playback.proofs.advance.Given as goal

abbrev pub invariant-loop-i : goal.invariant-loop-i
invariant-loop-i l = l.states ≡ changed (ticked_at l.run l.d) l.i l.run.states
