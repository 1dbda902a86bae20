-- What follows a block. Assumes nothing.
use Rattle.std.specs.Prelude.{None}
use Prim.Native.Nat.{ℕ, ◌-◌}
use mathlib.Core.Path.{◌≡◌, sym, ap, ◌∙◌}
use mathlib.Core.Logic.{if_pos, if_neg}
use native.Mathlib.Decide.{dec_le}
use Rattle.run.specs.declared.Run.{Run}
use Rattle.run.specs.Run.{playing, left_at, with_cycle}
use Rattle.run.specs.Steps.{counted}
use Rattle.playback.specs.Parts.{place_after, counted_off}

module _ (r : Run) (p : ℕ) (e : p ≡ place_after r.place r.left (playing r)) where
  pub counts_off : (l : ℕ) → l ≡ counted_off r.left (left_at r p) → with_cycle r p l None ≡ counted r
  unfolding counted
  counts_off l f =
      elim (dec_le r.left 1) [
        | yes m ↦
            (ap (λ (k : ℕ). with_cycle r p k None) (f ∙ if_pos (dec_le r.left 1) m _ _)
            ∙ ap (λ (k : ℕ). with_cycle r k (left_at r k) None) (e ∙ if_pos (dec_le r.left 1) m _ _)
            ∙ sym (if_pos (dec_le r.left 1) m _ _))
        | no m ↦
            (ap (λ (k : ℕ). with_cycle r p k None) (f ∙ if_neg (dec_le r.left 1) m _ _)
            ∙ ap (λ (k : ℕ). with_cycle r k (r.left - 1) None) (e ∙ if_neg (dec_le r.left 1) m _ _)
            ∙ sym (if_neg (dec_le r.left 1) m _ _))
      ]
