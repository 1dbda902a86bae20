-- `time_of` answers U of a limited cost: neither product nor sum passes 64 bits. Assumes nothing.
use Prim.Native.Nat.{ℕ, ◌+◌, ◌*◌}
use mathlib.Core.Path.{◌≡◌}
use native.Mathlib.Omega.{arith}
use Rattle.cost.specs.declared.Cost.{Cost}
use Rattle.cost.specs.Bound.{edges, worst_time}
use Rattle.cost.proofs.Bound.{PartsCapped, parts_capped}
use Rattle.cost.proofs.worst.time_of.Goals.{Start}
use Rattle.cost.proofs.worst.time_of.Goals as goal

-- The line of the code is U.
line : (N : ℕ) (x : Cost) (n e : ℕ) → e ≡ edges N n → x.fixed + n * x.each + e * x.cross ≡ worst_time N x n
unfolding worst_time
line N x n e h = rw h

parts : (c : Start) → PartsCapped c.args.cylinder 4294967295 c.args.cost c.args.n
parts c = parts_capped _ _ _ c.requires.0 _ (omega arith)

pub overflow_mul-blocks : goal.overflow_mul-blocks
overflow_mul-blocks c =
    let p = (parts (goal.at.overflow_mul-blocks c).Start).blocks in omega arith

pub overflow_mul-crossed : goal.overflow_mul-crossed
overflow_mul-crossed c =
    let q = (parts (goal.at.overflow_mul-crossed c).Start).crossed in rw c.edges.ensures (omega arith)

pub overflow_add-result : goal.overflow_add-result
overflow_add-result c =
    let p = (parts (goal.at.overflow_add-result c).Start).blocks in omega arith

pub overflow_add-result-2 : goal.overflow_add-result-2
overflow_add-result-2 c =
    let s = parts (goal.at.overflow_add-result-2 c).Start in
    let p = s.blocks in
    let q = s.crossed in
    rw c.edges.ensures (omega arith)

pub returns : goal.returns
returns c =
    line _ _ _ _ c.edges.ensures
