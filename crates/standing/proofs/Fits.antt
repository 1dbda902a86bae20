-- Each session of a standing at a place of its own. Assumes nothing.
use Prim.Native.Nat.{ℕ, ◌≤◌, ◌<◌}
use mathlib.Core.Path.{◌≡◌, sym, ap, ◌∙◌}
use mathlib.Core.List.{List}
use native.Mathlib.Omega.{arith}
use lib.ListN.{length, get_or}
use Rattle.order.specs.Order.{named, place_in}
use Rattle.standing.specs.Standing.{PlacedBelow, PlacedApart}
use Rattle.order.proofs.Orders.{named_at}

module _ (l o : List ℕ) (n : ℕ) (few : n ≤ length o) (below : PlacedBelow l n) where
  -- Who is found at each place, once all are seated, is who stands there.
  pub apart_found : PlacedApart l n → (i : ℕ) → i < n → get_or (named (place_in l) n o) (place_in l i) 0 ≡ i
  apart_found a = named_at (place_in l) o n (λ k b. let h = below k b in omega arith) a

  pub found_apart : ((i : ℕ) → i < n → get_or (named (place_in l) n o) (place_in l i) 0 ≡ i) → PlacedApart l n
  found_apart h i j a b e = sym (h i a) ∙ ap (λ (k : ℕ). get_or (named (place_in l) n o) k 0) e ∙ h j b
