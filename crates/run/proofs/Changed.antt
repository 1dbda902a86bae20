-- States changed one by one, from the front. Assumes nothing.
use Prim.Native.Nat.{ℕ, zero, suc, ◌+◌, ◌≤◌, ◌<◌}
use mathlib.Core.Path.{◌≡◌, refl, ◌∙◌}
use mathlib.Core.List.{List}
use native.Mathlib.Numerals.{add-one}
use native.Mathlib.Decide.{dec_lt, ℕ_discrete}
use native.Mathlib.Omega.{arith}
use lib.ListN.{length, get_or, set, length-set}
use lib.Seq.{get_or-set_same, get_or-set_other}
use Rattle.state.specs.declared.State.{State}
use Rattle.state.specs.State.{no_state}
use Rattle.run.specs.Steps.{changed}

module _ (f : ℕ → State → State) where
  pub changed_none : (l : List State) → changed f 0 l ≡ l
  unfolding changed
  changed_none l = refl

  -- a turn of a loop
  pub changed_more : (n : ℕ) (l : List State) → changed f (n + 1) l ≡ set (changed f n l) n (f n (get_or l n no_state))
  unfolding changed
  changed_more n l = rw add-one

  pub changed_length : (n : ℕ) (l : List State) → length (changed f n l) ≡ length l
  unfolding changed
  changed_length zero l = refl
  changed_length (suc n) l = length-set (changed f n l) n (f n (get_or l n no_state)) ∙ changed_length n l

  pub changed_above : (n : ℕ) (l : List State) (i : ℕ) → n ≤ i → get_or (changed f n l) i no_state ≡ get_or l i no_state
  unfolding changed
  changed_above zero l i h = refl
  changed_above (suc n) l i h =
      get_or-set_other (changed f n l) n i (f n (get_or l n no_state)) no_state (λ e. let b : ⊥ = omega arith in b)
      ∙ changed_above n l i (omega arith)

  pub changed_below :
      (n : ℕ) (l : List State) (i : ℕ) → i < n → n ≤ length l →
      get_or (changed f n l) i no_state ≡ f i (get_or l i no_state)
  unfolding changed
  changed_below zero l i h k = absurd (let b : ⊥ = omega arith in b)
  changed_below (suc n) l i h k =
      elim (dec_lt i n) [
        | yes m ↦
            (get_or-set_other (changed f n l) n i (f n (get_or l n no_state)) no_state (λ e. let b : ⊥ = omega arith in b)
            ∙ changed_below n l i m (omega arith))
        | no m ↦
            (let e : i ≡ n = omega arith in
            rw e (get_or-set_same (changed f n l) n (f n (get_or l n no_state)) no_state (rw (changed_length n l) k)))
      ]

-- One state replaced: what holds of it and of the others holds of each.
pub set_each :
    (P : ℕ → State → Type 0) (l : List State) (n i : ℕ) (t : State) → n ≤ length l → i < n → P i t →
    ((j : ℕ) → j < n → P j (get_or l j no_state)) → (j : ℕ) → j < n → P j (get_or (set l i t) j no_state)
set_each P l n i t k b h g j m =
    elim (ℕ_discrete j i) [
      | yes e ↦ rw (e, get_or-set_same l i t no_state (omega arith)) h
      | no d ↦ rw (get_or-set_other l i j t no_state d) (g j m)
    ]
