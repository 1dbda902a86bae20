-- A row of limits: one for each place below n, told place by place. Its first refusal is at its lowest offender. Assumes nothing.
use Rattle.std.specs.Prelude.{Ok, Err}
use Prim.Native.Nat.{ℕ, zero, suc, ◌<◌}
use mathlib.Core.Path.{◌≡◌, refl, ◌∙◌}
use native.Mathlib.Omega.{arith}
use Rattle.show.specs.Outcomes.{Check}
use Rattle.show.specs.declared.refusal.Refusal.{Refusal}
use Rattle.show.specs.Checks.{unless, first, first_below}
use Rattle.show.specs.Faults.{Lowest}
use Rattle.show.proofs.Checks.{within_refused, unless_kept, unless_broken, unless_within, unless_refused, below_at, below_all, below_stops}

module _ (p : ℕ → Type 0) (told : (i : ℕ) → Dec (p i)) (why : ℕ → Refusal) where
  abbrev row : ℕ → Check
  row i = unless (told i) (why i)

  -- it passes exactly if each place keeps its limit
  pub row_within : (n : ℕ) → first_below row n ≡ Ok tt → (i : ℕ) → i < n → p i
  row_within n e i l = unless_within (told i) (why i) (below_at row n e i l)

  pub row_kept : (n : ℕ) → ((i : ℕ) → i < n → p i) → first_below row n ≡ Ok tt
  row_kept n h = below_all row n (λ i l. unless_kept (told i) (why i) (h i l))

  -- it is refused exactly at its lowest offender
  pub row_offends : (n i : ℕ) → Lowest p n i → first_below row n ≡ Err (why i)
  row_offends n i l =
      below_stops row i n l.inside (row_kept i l.before) (unless_broken (told i) (why i) l.fails)

  pub row_lowest : (n : ℕ) {w : Refusal} → first_below row n ≡ Err w → (i : ℕ) × Lowest p n i × (why i ≡ w)
  unfolding first_below
  row_lowest zero e = within_refused e
  row_lowest (suc n) {w} e = from (first_below row n) refl e (λ h. row_lowest n h)
    where
      from :
          (x : Check) → first_below row n ≡ x → first x (row n) ≡ Err w →
          (first_below row n ≡ Err w → (i : ℕ) × Lowest p n i × (why i ≡ w)) → (i : ℕ) × Lowest p (suc n) i × (why i ≡ w)
      from (Ok tt) c q more =
          let f = unless_refused (told n) (why n) q in
          (n, record { inside = omega arith; before = row_within n c; fails = f.0 }, f.1)
      from (Err v) c q more =
          let r = more (c ∙ q) in
          (r.0, record { inside = (let l = r.1.inside in omega arith); before = r.1.before; fails = r.1.fails }, r.2)
