-- The answer put in three: what stands in the slice. Assumes nothing.
use mathlib.Core.Path.{◌≡◌}
use mathlib.Core.List.{List, [], ◌∷◌}
use Prim.Native.Nat.{ℕ, ◌≤◌}
use lib.ListN.{length, set}
use Rattle.showfile.specs.Bytes.{over}
use Rattle.showfile.proofs.ByteLaws.{sets_over}

pub three_over : (b : List ℕ) (x y z : ℕ) → 3 ≤ length b → set (set (set b 0 x) 1 y) 2 z ≡ over b 0 (x ∷ y ∷ z ∷ [])
three_over b x y z h = sets_over (x ∷ y ∷ z ∷ []) b 0 h
