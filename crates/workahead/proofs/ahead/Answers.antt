-- `ahead` is the workahead of a state. Assumes nothing.
use Prim.Native.Nat.{ℕ, ◌<◌}
use mathlib.Core.Path.{◌≡◌, ◌∙◌}
use native.Mathlib.Omega.{arith}
use lib.IntN.{ℤ}
use Rattle.std.proofs.lemmas.Int.{ints}
use Rattle.theory.specs.Floor.{Floors, floor_z}
use Rattle.theory.proofs.Floor.{floor_floors, floors_once}
use borrow.Author.Rules.{rules}
use Rattle.workahead.proofs.ahead.Goals as goal

floored : (x z q : ℤ) (r : ℕ) → 0 < r → Floors x r q → x ≡ z → q ≡ floor_z z r
floored x z q r h f e = floors_once z r _ _ h (rw e at f) (floor_floors z r h)

pub returns : goal.returns
returns c = search rules ∙ floored _ _ _ _ c.requires.rate_nonzero c.floor_div.ensures (omega (arith, ints))
