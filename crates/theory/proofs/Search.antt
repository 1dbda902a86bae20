-- The least number with a property, and the lowest place without one, where it can be told of each. Assumes nothing.
use Prim.Native.Nat.{ℕ, zero, suc, ◌+◌, ◌≤◌, ◌<◌}
use mathlib.Core.Path.{◌≡◌, subst}
use mathlib.Core.Logic.{◌⊎◌, inl, inr}
use native.Mathlib.Omega.{arith}
use native.Mathlib.Decide.{dec_le, dec_lt}
use Rattle.show.specs.Faults.{Lowest}

-- Where some number has p, and it is told of each whether it has, one is the least.
pub least_of : (p : ℕ → Type 0) → ((n : ℕ) → Dec (p n)) → (n : ℕ) → p n → (m : ℕ) × p m × ((k : ℕ) → p k → m ≤ k)
least_of p told n h = from n 0 (omega arith) (λ j l. absurd (let f : ⊥ = omega arith in f))
  where
    above : (k : ℕ) → ((j : ℕ) → j < k → p j → ⊥) → (j : ℕ) → p j → k ≤ j
    above k none j q = elim (dec_le k j) [ yes le ↦ le | no gt ↦ absurd (none j (omega arith) q) ]

    more : (k : ℕ) → ((j : ℕ) → j < k → p j → ⊥) → (p k → ⊥) → (j : ℕ) → j < suc k → p j → ⊥
    more k none not j l q = elim (dec_lt j k) [ yes lt ↦ none j lt q | no ge ↦ not (subst p (omega arith) q) ]

    from : (left k : ℕ) → k + left ≡ n → ((j : ℕ) → j < k → p j → ⊥) → (m : ℕ) × p m × ((j : ℕ) → p j → m ≤ j)
    from zero k e none = (k, subst p (omega arith) h, above k none)
    from (suc left) k e none =
        elim (told k) [ yes q ↦ (k, q, above k none) | no not ↦ from left (suc k) (omega arith) (more k none not) ]

-- Of the places below n, all have p, or one is the lowest that has not.
pub all_or_lowest : (p : ℕ → Type 0) → ((i : ℕ) → Dec (p i)) → (n : ℕ) → ((i : ℕ) → i < n → p i) ⊎ ((i : ℕ) × Lowest p n i)
all_or_lowest p told zero = inl (λ i h. absurd (let f : ⊥ = omega arith in f))
all_or_lowest p told (suc n) = from (all_or_lowest p told n) (told n)
  where
    all : ((i : ℕ) → i < n → p i) → p n → (i : ℕ) → i < suc n → p i
    all f q i h = elim (dec_lt i n) [ yes u ↦ f i u | no u ↦ subst p (omega arith) q ]

    from :
        ((i : ℕ) → i < n → p i) ⊎ ((i : ℕ) × Lowest p n i) → Dec (p n) →
        ((i : ℕ) → i < suc n → p i) ⊎ ((i : ℕ) × Lowest p (suc n) i)
    from (inl f) (yes q) = inl (all f q)
    from (inl f) (no q) = inr (n, record { inside = omega arith; before = f; fails = q })
    from (inr f) d =
        inr (f.0, record { inside = (let u = f.1.inside in omega arith); before = f.1.before; fails = f.1.fails })
