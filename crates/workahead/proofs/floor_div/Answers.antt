-- `floor_div` rounds down. Assumes nothing.
use mir.Facts.{to_z-of_z}
use native.Mathlib.Omega.{arith}
use Rattle.theory.proofs.Floor.{floor_floors}
use Rattle.workahead.proofs.Truncated.{small, quot_fits, rem_fits, floor_fits, truncated_low, truncated_even}
use Rattle.workahead.proofs.floor_div.Goals as goal

pub returns-then-x-d-lt0 : goal.returns-then-x-d-lt0
returns-then-x-d-lt0 c =
    grind (arith, to_z-of_z, small, rem_fits, quot_fits, truncated_low c.args.x c.args.r c.requires, floor_fits, floor_floors c.args.x c.args.r c.requires)

pub returns : goal.returns
returns c = grind (arith, to_z-of_z, small, truncated_even, floor_floors)
