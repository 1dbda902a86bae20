-- Who is skipped, and where choose arrives, as the code finds it. Assumes nothing.
use Prim.Native.Nat.{ℕ, ◌+◌, ◌-◌, ◌≤◌, ◌<◌}
use mathlib.Core.Path.{◌≡◌, sym, ap, ◌∙◌}
use native.Mathlib.Omega.{arith}
use Rattle.run.specs.declared.Run.{Run}
use Rattle.run.specs.Run.{playing, seat_at, left_at, onward, RoomAt}
use Rattle.run.specs.Decisions.{room?}
use Rattle.run.specs.Steps.{first_from, skipped, left_after}
use Rattle.run.proofs.Searches.{first_hit, first_on, first_none, first_all}
use Rattle.scheduler.specs.declared.Chosen.{Chosen}
use Rattle.scheduler.specs.Answers.{arrived, arrived_past}

-- ---- who is skipped

-- The first k have no room.
pub record SkippedTo (r : Run) (k : ℕ) : Type 0 where
  pub inside : k ≤ playing r
  pub rest : skipped r ≡ first_from (λ j. room? r (seat_at r (onward r j))) k (playing r - k)

module _ (r : Run) where
  pub skips_none : SkippedTo r 0
  unfolding skipped
  skips_none = record { inside = omega arith; rest = sym (first_all _ (playing r)) }

  pub skips_more : (k : ℕ) → SkippedTo r k → k < playing r → (RoomAt r (seat_at r (onward r k)) → ⊥) → SkippedTo r (k + 1)
  skips_more k h l n = record { inside = omega arith; rest = h.rest ∙ first_on _ k (playing r) l n }

  pub skips_found : (k : ℕ) → SkippedTo r k → k < playing r → RoomAt r (seat_at r (onward r k)) → k ≡ skipped r
  skips_found k h l g = sym (h.rest ∙ first_hit _ k (playing r) l g)

  pub skips_all : (k : ℕ) → SkippedTo r k → playing r ≤ k → k ≡ skipped r
  skips_all k h l = sym (h.rest ∙ first_none _ k (playing r) l)

-- ---- where choose arrives

module _ (r : Run) where
  pub arrives_past :
      (k fresh left : ℕ) (a : Chosen) → fresh ≡ left_at r (onward r k) → left ≡ left_after k r.left fresh →
      a ≡ arrived r (onward r k) left → k ≡ skipped r → a ≡ arrived_past r (skipped r)
  arrives_past k fresh left a e f g h =
      g
      ∙ ap (λ (n : ℕ). arrived r (onward r k) n) (f ∙ ap (λ (n : ℕ). left_after k r.left n) e)
      ∙ ap (λ (n : ℕ). arrived_past r n) h
