-- Runs that differ in unused places alone: answers by their check, and a step leaves them so. Assumes nothing.
use Rattle.std.specs.Prelude.{Ok, Err, Option}
use Prim.Native.Nat.{ℕ, ◌≤◌, ◌<◌}
use mathlib.Core.Path.{◌≡◌, refl, sym, ap, ap₂, subst, ◌∙◌}
use mathlib.Core.Bool.{Bool, true, false}
use native.Mathlib.Omega.{arith}
use native.Mathlib.Decide.{dec_lt, ℕ_discrete}
use mathlib.Core.List.{List}
use lib.IntN.{ℤ}
use lib.ListN.{length, get_or, set}
use lib.Seq.{get_or-set_same, get_or-set_other}
use Rattle.show.specs.Outcomes.{Check}
use Rattle.show.specs.declared.Session.{Session}
use Rattle.show.specs.declared.refusal.Refusal.TheVariants as refusal
use Rattle.show.specs.Checks.{unless, first}
use Rattle.show.proofs.Checks.{unless_within, first_left}
use Rattle.showfile_write.proofs.Unused.{told_same}
use Rattle.state.specs.declared.State.{State}
use Rattle.run.specs.declared.Run.{Run}
use Rattle.state.specs.State.{no_state, ticked, drawn}
use Rattle.run.specs.Run.{playing, state_at, with_states, with_cycle}
use Rattle.run.specs.Sound.{SoundRun}
use Rattle.run.specs.Decisions.{sound?, sound_check}
use Rattle.run.specs.Answers.{moved, present_check}
use Rattle.run.specs.Steps.{ticked_at, states_after, passed, drawn_at}
use Rattle.run.proofs.Changed.{changed_below}
use Rattle.spare.specs.Answers.{spared}
use Rattle.promises.specs.Runs.{Sized}
use Rattle.promises.proofs.Runs.{few}
use Rattle.promises.specs.Unseen.{AlikeRuns, SameMoved, SameSpared}

-- ---- answers by their check

-- Later tests need be the same only where those before them are passed.
pub first_same : (x y : Check) {c d : Check} → x ≡ y → (x ≡ Ok tt → c ≡ d) → first x c ≡ first y d
first_same x y e f = told_same first (λ w c d. refl) x y _ _ e f

pub moved_same :
    (k j : Check) (r q a b : Run) → k ≡ j → AlikeRuns r q → (k ≡ Ok tt → AlikeRuns a b) → SameMoved (moved k r a) (moved j q b)
moved_same k j r q a b e h f = subst (λ (x : Check). SameMoved (moved k r a) (moved x q b)) e (from k refl)
  where
    from : (x : Check) → k ≡ x → SameMoved (moved x r a) (moved x q b)
    from (Ok tt) g = (refl, f g)
    from (Err w) g = (refl, h)

pub spared_same :
    (k j : Check) (z y : ℤ) (r q : Run) → k ≡ j → AlikeRuns r q → (k ≡ Ok tt → z ≡ y) → SameSpared (spared k z r) (spared j y q)
spared_same k j z y r q e h f = subst (λ (x : Check). SameSpared (spared k z r) (spared x y q)) e (from k refl)
  where
    from : (x : Check) → k ≡ x → SameSpared (spared x z r) (spared x y q)
    from (Ok tt) g = (ap Ok (f g), h)
    from (Err w) g = (refl, h)

-- 19 is passed by a sound run alone.
pub sound_passed : (r : Run) (c : Check) → first (sound_check r) c ≡ Ok tt → SoundRun r
sound_passed r c e = unless_within (sound? r) refusal.Damaged (first_left (sound_check r) c e)

-- ---- parts changed

-- Rows that agree below n still do, with the same put at a place of both.
pub set_alike :
    {X : Type 0} (l m : List X) (z : X) (n i : ℕ) (t u : X) → n ≤ length l → n ≤ length m → t ≡ u →
    ((j : ℕ) → j < n → get_or l j z ≡ get_or m j z) → (j : ℕ) → j < n → get_or (set l i t) j z ≡ get_or (set m i u) j z
set_alike l m z n i t u a b e h j g =
    elim (ℕ_discrete j i) [
      | yes f ↦ rw (f, get_or-set_same l i t z (omega arith), get_or-set_same m i u z (omega arith)) e
      | no f ↦ get_or-set_other l i j t z f ∙ h j g ∙ sym (get_or-set_other m i j u z f)
    ]

module _ (r q : Run) (a : AlikeRuns r q) where
  pub states_alike :
      (l m : List State) → ((i : ℕ) → i < playing r → get_or l i no_state ≡ get_or m i no_state) → AlikeRuns (with_states r l) (with_states q m)
  states_alike l m h =
      record {
        show = a.show;
        counts = a.counts;
        states = h;
        order = a.order;
        place = a.place;
        left = a.left;
        underway = a.underway;
        started = a.started;
      }

  pub cycle_alike :
      (p o k j : ℕ) (u v : (Option ℕ)) → p ≡ o → k ≡ j → u ≡ v → AlikeRuns (with_cycle r p k u) (with_cycle q o j v)
  cycle_alike p o k j u v e f g =
      record {
        show = a.show;
        counts = a.counts;
        states = a.states;
        order = a.order;
        place = e;
        left = f;
        underway = g;
        started = a.started;
      }

  pub session_same : (i : ℕ) → present_check r i ≡ present_check q i
  session_same i = ap (λ (n : ℕ). unless (dec_lt i n) refusal.NoSession) a.show.playing

  module _ (n : Sized r) (m : Sized q) (s : SoundRun r) where
    pub few_too : playing r ≤ length q.states
    few_too = let h = s.within.counts.sessions in let k = m.states in omega arith

    pub passed_alike : (d : ℕ) → AlikeRuns (passed r d) (passed q d)
    unfolding passed
    passed_alike d =
        subst (λ (b : Bool). AlikeRuns (with_states r (states_after r.started r d)) (with_states q (states_after b q d))) a.started
        (from r.started)
      where
        ticks : (i : ℕ) → i < playing r → ticked_at r d i (state_at r i) ≡ ticked_at q d i (state_at q i)
        ticks i l = ap₂ (λ (x : Session) (t : State). ticked x.rate d t) (a.show.sessions i l) (a.states i l)

        from : (b : Bool) → AlikeRuns (with_states r (states_after b r d)) (with_states q (states_after b q d))
        from false = states_alike r.states q.states a.states
        from true =
            states_alike _ _
            (λ i l.
            (let e = a.show.playing in
            let f = few_too in
            changed_below (ticked_at r d) (playing r) r.states i l (few r n s)
            ∙ ticks i l
            ∙ sym (changed_below (ticked_at q d) (playing q) q.states i (omega arith) (omega arith))))

    pub taken_alike : (i k : ℕ) → i < playing r → AlikeRuns (drawn_at r i k) (drawn_at q i k)
    unfolding drawn_at
    taken_alike i k l =
        states_alike _ _
        (set_alike r.states q.states no_state (playing r) i _ _ (few r n s) few_too (ap (drawn k) (a.states i l)) a.states)
