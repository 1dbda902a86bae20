-- What is left of a count when an operation begins. Assumes nothing.
use Prim.Native.Nat.{ℕ, ◌≤◌}
use mathlib.Core.Path.{◌≡◌, sym, ap}
use mathlib.Core.List.{List}
use native.Mathlib.Nat.{le_refl}
use lib.ListN.{length, get_or, get_or-eq_default}
use Rattle.show.specs.Limits.{Between}
use Rattle.verdict.specs.Answers.{set_of}
use Rattle.run.specs.Run.{left_in}

module _ (counts order : List ℕ) (k : ℕ) where
  pub left_within : 1 ≤ set_of counts (get_or order k 0) → Between 1 (left_in counts order k) (set_of counts (get_or order k 0))
  unfolding left_in
  left_within l = record { low = l; high = le_refl _ }

  -- past the last place stands session 0
  pub left_past_end : length order ≤ k → set_of counts 0 ≡ left_in counts order k
  unfolding left_in
  left_past_end l = ap (set_of counts) (sym (get_or-eq_default order 0 l))
