use lib.ListN.{length, set, length-set}
use Prim.Native.Nat.{◌<◌}
use native.Mathlib.Omega.{arith}
use Rattle.chikchiro.proofs.Rows.{three_over}
use mathlib.Core.Path.{refl}
use borrow.Author.Rules.{rules}
use Rattle.chikchiro.proofs.put_reason.Goals as goal

pub bounds-out-1 : goal.bounds-out-1
bounds-out-1 c =
    (let h : 1 < length
    (set c.args.out.now 0 c.args.kind) = (let e = length-set c.args.out.now 0 c.args.kind in omega (arith, e, c.requires)) in h)

pub returns : goal.returns
returns c =
    (refl, three_over _ _ _ _ c.requires)
