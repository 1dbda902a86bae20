-- The first number of which a statement holds, and so the first session from the place on that has room. Assumes nothing.
use Prim.Native.Nat.{ℕ, zero, suc, ◌+◌, ◌-◌, ◌≤◌, ◌<◌}
use mathlib.Core.Path.{◌≡◌, sym, ap, subst, ◌∙◌}
use mathlib.Core.Logic.{if_pos, if_neg}
use native.Mathlib.Decide.{dec_lt, dec_le}
use native.Mathlib.Nat.{mod-eq_of_lt, add-mod_right}
use native.Mathlib.Omega.{arith}
use Rattle.run.specs.declared.Run.{Run}
use Rattle.run.specs.Run.{playing, seat_at, onward, RoomAt}
use Rattle.run.specs.Sound.{SoundRun}
use Rattle.run.specs.Decisions.{room?}
use Rattle.run.specs.Steps.{first_from, skipped}

module _ {p : ℕ → Type 0} (d : (k : ℕ) → Dec (p k)) where
  first_here : (k n : ℕ) → p k → first_from d k (suc n) ≡ k
  unfolding first_from
  first_here k n h = if_pos (d k) h k (first_from d (k + 1) n)

  first_next : (k n : ℕ) → (p k → ⊥) → first_from d k (suc n) ≡ first_from d (k + 1) n
  unfolding first_from
  first_next k n h = if_neg (d k) h k (first_from d (k + 1) n)

  -- ---- the turns of a loop

  pub first_hit : (i n : ℕ) → i < n → p i → first_from d i (n - i) ≡ i
  first_hit i n l h = let e : n - i ≡ suc (n - (i + 1)) = omega arith in rw e (first_here i (n - (i + 1)) h)

  pub first_on : (i n : ℕ) → i < n → (p i → ⊥) → first_from d i (n - i) ≡ first_from d (i + 1) (n - (i + 1))
  first_on i n l h = let e : n - i ≡ suc (n - (i + 1)) = omega arith in rw e (first_next i (n - (i + 1)) h)

  pub first_none : (i n : ℕ) → n ≤ i → first_from d i (n - i) ≡ i
  unfolding first_from
  first_none i n h = let e : n - i ≡ 0 = omega arith in rw e

  pub first_all : (n : ℕ) → first_from d 0 (n - 0) ≡ first_from d 0 n
  first_all n = let e : n - 0 ≡ n = omega arith in rw e

  -- ---- what is found

  pub first_holds : (k n : ℕ) → first_from d k n < k + n → p (first_from d k n)
  unfolding first_from
  first_holds k zero l = absurd (let f : ⊥ = omega arith in f)
  first_holds k (suc n) l =
      elim (d k) [
        | yes h ↦ subst p (sym (first_here k n h)) h
        | no h ↦
            (let e = first_next k n h in
            subst p (sym e) (first_holds (k + 1) n (omega arith)))
      ]

  pub first_before : (k n i : ℕ) → k ≤ i → i < first_from d k n → p i → ⊥
  unfolding first_from
  first_before k zero i l m h = omega arith
  first_before k (suc n) i l m h =
      elim (d k) [
        | yes g ↦ (let e = first_here k n g in let f : ⊥ = omega arith in f)
        | no g ↦
            (let e = first_next k n g in
            elim (dec_lt k i) [
              | yes b ↦ first_before (k + 1) n i (omega arith) (omega arith) h
              | no b ↦ g (subst p (omega arith) h)
            ])
      ]

-- ---- who is skipped

module _ (r : Run) where
  pub skipped_room : skipped r < playing r → RoomAt r (seat_at r (onward r (skipped r)))
  unfolding skipped
  skipped_room l = first_holds (λ k. room? r (seat_at r (onward r k))) 0 (playing r) (omega arith)

  pub skipped_before : (k : ℕ) → k < skipped r → RoomAt r (seat_at r (onward r k)) → ⊥
  unfolding skipped
  skipped_before k l h = first_before (λ k. room? r (seat_at r (onward r k))) 0 (playing r) k (omega arith) l h

  -- Every place is some places on.
  pub onward_reaches : r.place < playing r → (t : ℕ) → t < playing r → (k : ℕ) × ((k < playing r) × (onward r k ≡ t))
  onward_reaches h t l =
      elim (dec_le r.place t) [
        | yes b ↦
            (let e : r.place + (t - r.place) ≡ t = omega arith in
            (t - r.place, (omega arith, rw e (mod-eq_of_lt l))))
        | no b ↦
            (let e : r.place + (t + playing r - r.place) ≡ t + playing r = omega arith in
            (t + playing r - r.place, (omega arith, rw e (add-mod_right t (playing r) ∙ mod-eq_of_lt l))))
      ]

-- Where all are skipped nobody has room: every session is at some place.
pub nobody : (r : Run) → SoundRun r → playing r ≤ skipped r → (i : ℕ) → i < playing r → RoomAt r i → ⊥
nobody r s h i l g =
    let o = s.order i l in
    let k = onward_reaches r (s.cycle.turning (omega arith)).place o.place o.inside in
    let e : seat_at r (onward r k.0) ≡ i = ap (seat_at r) k.1.1 ∙ o.names in
    skipped_before r k.0 (let b = k.1.0 in omega arith) (subst (RoomAt r) (sym e) g)
