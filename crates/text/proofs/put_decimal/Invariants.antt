-- From the last digit to the first: with the digits of what is left put in front, the whole number is put. Assumes nothing.
use mathlib.Core.Path.{◌≡◌}
use mathlib.Core.List.{List}
use Prim.Native.Nat.{ℕ, ◌+◌, ◌^◌, ◌<◌, ◌≤◌}
use lib.ListN.{length}
use Rattle.showfile.specs.Bytes.{over}
use Rattle.text.specs.Decimal.{decimal}
use Rattle.text.proofs.put_decimal.Given as goal

pub record SoFar (was : List ℕ) (at n : ℕ) (out : List ℕ) (i left : ℕ) : Type 0 where
  pub narrow : left < 2 ^ 64
  pub same : length out ≡ length was
  pub inside : i ≤ length out
  pub place : i ≡ at + length (decimal left)
  pub so_far : over out at (decimal left) ≡ over was at (decimal n)

abbrev pub invariant-loop-i : goal.invariant-loop-i
invariant-loop-i l = SoFar l.initial.out l.at l.n l.out l.i l.left
