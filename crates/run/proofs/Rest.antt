-- What no step changes: the show, the counts, the order, the start, and the places that do not play. Assumes nothing.
use Rattle.std.specs.Prelude.{Option}
use Prim.Native.Nat.{ℕ, ◌≤◌, ◌<◌}
use mathlib.Core.Path.{◌≡◌, refl, sym, subst, ◌∙◌}
use mathlib.Core.Bool.{Bool, true, false}
use mathlib.Core.List.{List}
use native.Mathlib.Decide.{dec_le}
use native.Mathlib.Omega.{arith}
use lib.ListN.{length, get_or, set, length-set}
use lib.Seq.{get_or-set_other}
use Rattle.show.specs.declared.Show.{Show}
use Rattle.state.specs.declared.State.{State}
use Rattle.run.specs.declared.Run.{Run}
use Rattle.state.specs.State.{no_state}
use Rattle.run.specs.Run.{playing, state_at, with_states, with_cycle}
use Rattle.run.specs.Steps.{ticked_at, states_after, passed, drawn_at, idled, begun, stored, counted, landed}
use Rattle.run.specs.Laws.{Kept}
use Rattle.run.proofs.Changed.{changed_length, changed_above}
use Rattle.run.proofs.Steps.{ite_either}

pub same_kept : (r : Run) → Kept r r
same_kept r = record { show = refl; counts = refl; order = refl; started = refl; states = λ i h. refl; sized = refl }

pub kept_then : (r p q : Run) → Kept r p → Kept p q → Kept r q
kept_then r p q a b =
    record {
      show = b.show ∙ a.show;
      counts = b.counts ∙ a.counts;
      order = b.order ∙ a.order;
      started = b.started ∙ a.started;
      states = λ i h. b.states i (subst (λ (x : Show). x.playing ≤ i) (sym a.show) h) ∙ a.states i h;
      sized = b.sized ∙ a.sized;
    }

module _ (r : Run) where
  -- other states that play
  states_kept :
      (l : List State) → ((i : ℕ) → playing r ≤ i → get_or l i no_state ≡ state_at r i) → length l ≡ length r.states →
      Kept r (with_states r l)
  states_kept l h e = record { show = refl; counts = refl; order = refl; started = refl; states = h; sized = e }

  set_kept : (i : ℕ) (t : State) → i < playing r → Kept r (with_states r (set r.states i t))
  set_kept i t l =
      states_kept _ (λ j h. get_or-set_other r.states i j t no_state (λ e. let f : ⊥ = omega arith in f)) (length-set r.states i t)

  -- another moment of the cycle
  cycle_kept : (q : Run) (place left : ℕ) (u : (Option ℕ)) → Kept r q → Kept r (with_cycle q place left u)
  cycle_kept q place left u k =
      record {
        show = k.show;
        counts = k.counts;
        order = k.order;
        started = k.started;
        states = k.states;
        sized = k.sized;
      }

  pub passed_kept : (d : ℕ) → Kept r (passed r d)
  unfolding passed
  passed_kept d = from r.started
    where
      from : (b : Bool) → Kept r (with_states r (states_after b r d))
      from false = same_kept r
      from true =
          states_kept _ (λ i h. changed_above (ticked_at r d) (playing r) r.states i h)
          (changed_length (ticked_at r d) (playing r) r.states)

  pub taken_kept : (i n : ℕ) → i < playing r → Kept r (drawn_at r i n)
  unfolding drawn_at
  taken_kept i n l = set_kept i _ l

  pub idled_kept : Kept r (idled r)
  unfolding idled
  idled_kept = cycle_kept r _ _ _ (same_kept r)

  pub begun_kept : (place left : ℕ) → Kept r (begun r place left)
  unfolding begun
  begun_kept place left = cycle_kept r _ _ _ (same_kept r)

  pub landed_kept : (i : ℕ) → i < playing r → Kept r (landed r i)
  unfolding landed counted
  landed_kept i l =
      let k = set_kept i _ l in
      ite_either (Kept r) (dec_le r.left 1) _ _ (λ b. cycle_kept (stored r i) _ _ _ k) (λ b. cycle_kept (stored r i) _ _ _ k)
