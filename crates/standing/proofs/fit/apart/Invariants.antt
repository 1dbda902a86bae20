-- `apart` seats all and looks for each: the first i are found at their places. Assumes nothing.
use Prim.Native.Nat.{ℕ, ◌<◌}
use mathlib.Core.Path.{◌≡◌}
use lib.ListN.{get_or}
use Rattle.order.specs.Order.{place_in}
use Rattle.standing.proofs.fit.apart.Given as goal

abbrev pub invariant-loop-i : goal.invariant-loop-i
invariant-loop-i l = (k : ℕ) → k < l.i → get_or l.seats (place_in l.places k) 0 ≡ k
