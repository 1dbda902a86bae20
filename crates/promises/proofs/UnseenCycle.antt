-- Runs that differ in unused places alone are chosen for alike and finish alike. Assumes nothing.
use Rattle.std.specs.Prelude.{Ok, Err, Some, None, Option}
use Prim.Native.Nat.{ℕ, zero, suc, ◌+◌, ◌≤◌, ◌<◌}
use mathlib.Core.Path.{◌≡◌, refl, ap, ap₂, subst, ◌∙◌}
use mathlib.Core.Logic.{ite}
use native.Mathlib.Omega.{arith}
use native.Mathlib.Decide.{dec_le, dec_lt, ℕ_discrete}
use lib.ListN.{length}
use Rattle.show.specs.Outcomes.{Check}
use Rattle.show.specs.declared.Drive.{Drive}
use Rattle.show.specs.Checks.{first}
use Rattle.state.specs.declared.State.{State}
use Rattle.run.specs.declared.Run.{Run}
use Rattle.state.specs.State.{no_state, filled}
use Rattle.run.specs.Run.{playing, seat_at, left_at, onward, RoomAt, PutAt}
use Rattle.run.specs.Sound.{SoundRun}
use Rattle.run.specs.Decisions.{room?, put?}
use Rattle.run.specs.Answers.{free_check}
use Rattle.run.specs.Steps.{passed, idled, first_from, skipped, left_after, left_past, begun}
use Rattle.run.specs.Steps.{stored, counted, landed}
use Rattle.run.proofs.Rest.{passed_kept}
use Rattle.run.proofs.Steps.{seat_below, read_below, onward_below, passed_sound}
use Rattle.playback.specs.Answers.{span_check, busy_check, finish_check, landed_for, finish_of}
use Rattle.scheduler.specs.declared.Choice.TheVariants as choice
use Rattle.scheduler.specs.Answers.{chosen, arrived, arrived_past, next_of, choose_check, chosen_by, choose_of}
use Rattle.promises.specs.Runs.{Sized}
use Rattle.promises.specs.Unseen.{AlikeRuns, SameMoved, SameChosen}
use Rattle.promises.proofs.Runs.{few}
use Rattle.promises.proofs.Alike.{back, room_alike, put_alike, onward_alike, left_alike, still_sound, sound_same}
use Rattle.promises.proofs.AlikeSteps.{moved_same, sound_passed, set_alike, states_alike, cycle_alike, few_too, passed_alike}

-- ---- choose

-- Tests of statements that hold together.
ite_both :
    {A P Q : Type 0} (R : A → A → Type 0) (d : Dec P) (e : Dec Q) (a b x y : A) → (P → Q) → (Q → P) → (P → R a x) → ((P → ⊥) → R b y) →
    R (ite d a b) (ite e x y)
ite_both R (yes h) (yes k) a b x y f g u v = u h
ite_both R (yes h) (no k) a b x y f g u v = absurd (k (f h))
ite_both R (no h) (yes k) a b x y f g u v = absurd (h (g k))
ite_both R (no h) (no k) a b x y f g u v = v h

first_from_same :
    {p o : ℕ → Type 0} (d : (k : ℕ) → Dec (p k)) (e : (k : ℕ) → Dec (o k)) → ((k : ℕ) → p k → o k) → ((k : ℕ) → o k → p k) → (k n : ℕ) →
    first_from d k n ≡ first_from e k n
unfolding first_from
first_from_same d e f g k zero = refl
first_from_same d e f g k (suc n) =
    ite_both (λ (x y : ℕ). x ≡ y) (d k) (e k) _ _ _ _ (f k) (g k) (λ h. refl) (λ h. first_from_same d e f g (k + 1) n)

module _ (r q : Run) (a : AlikeRuns r q) (s : SoundRun r) (some : 0 < playing r) where
  -- the session so many places on
  seat_alike : (k : ℕ) → seat_at r (onward r k) ≡ seat_at q (onward q k)
  seat_alike k = a.order (onward r k) (onward_below r k some) ∙ ap (seat_at q) (onward_alike r q a k)

  seat_plays : (k : ℕ) → seat_at r (onward r k) < playing r
  seat_plays k = seat_below r s (onward r k) (onward_below r k some)

  room_there : (k : ℕ) → RoomAt r (seat_at r (onward r k)) → RoomAt q (seat_at q (onward q k))
  room_there k h = subst (RoomAt q) (seat_alike k) (room_alike r q a _ (seat_plays k) h)

  put_there : (k : ℕ) → PutAt r (seat_at r (onward r k)) → PutAt q (seat_at q (onward q k))
  put_there k h = subst (PutAt q) (seat_alike k) (put_alike r q a _ (seat_plays k) h)

  idled_alike : AlikeRuns (idled r) (idled q)
  unfolding idled
  idled_alike =
      cycle_alike r q a r.place q.place _ _ r.underway q.underway a.place
      (left_alike r q a s r.place (s.cycle.turning some).place ∙ ap (left_at q) a.place) a.underway

  left_there : (k : ℕ) → left_at r (onward r k) ≡ left_at q (onward q k)
  left_there k = left_alike r q a s (onward r k) (onward_below r k some) ∙ ap (left_at q) (onward_alike r q a k)

  begun_alike : (k : ℕ) → AlikeRuns (begun r (onward r k) (left_past r k)) (begun q (onward q k) (left_past q k))
  unfolding begun
  begun_alike k =
      cycle_alike r q a (onward r k) (onward q k) _ _ _ _ (onward_alike r q a k) (ap₂ (left_after k) a.left (left_there k))
      (ap Some (seat_alike k))

module _ (r q : Run) (a : AlikeRuns r q) (s : SoundRun r) (some : 0 < playing r) where
  other : AlikeRuns q r
  other = back r q a

  other_sound : SoundRun q
  other_sound = still_sound r q a s

  some_too : 0 < playing q
  some_too = let n = a.show.playing in omega arith

  skipped_same : skipped r ≡ skipped q
  unfolding skipped
  skipped_same =
      first_from_same (λ k. room? r (seat_at r (onward r k))) (λ k. room? q (seat_at q (onward q k))) (room_there r q a s some)
      (room_there q r other other_sound some_too) 0 (playing r)
      ∙ ap (first_from (λ k. room? q (seat_at q (onward q k))) 0) a.show.playing

  arrived_same : (k : ℕ) → SameChosen (arrived_past r k) (arrived_past q k)
  unfolding arrived
  arrived_same k =
      ite_both SameChosen (put? r (seat_at r (onward r k))) (put? q (seat_at q (onward q k))) _ _ _ _ (put_there r q a s some k)
      (put_there q r other other_sound some_too k) (λ h. (ap choice.Read (seat_alike r q a s some k), begun_alike r q a s some k)) (λ h. (refl, a))

  moves_same :
      SameChosen (ite (dec_lt (skipped r) (playing r)) (arrived_past r (skipped r)) (chosen choice.Idle (idled r)))
      (ite (dec_lt (skipped q) (playing q)) (arrived_past q (skipped q)) (chosen choice.Idle (idled q)))
  moves_same =
      let n = a.show.playing in
      let e = skipped_same in
      ite_both SameChosen (dec_lt (skipped r) (playing r)) (dec_lt (skipped q) (playing q)) _ _ _ _ (λ h. omega arith) (λ h. omega arith)
      (λ h. subst (λ (k : ℕ). SameChosen (arrived_past r (skipped r)) (arrived_past q k)) e (arrived_same (skipped r)))
      (λ h. (refl, idled_alike r q a s some))

next_same : (r q : Run) → AlikeRuns r q → SoundRun r → SameChosen (next_of r) (next_of q)
unfolding next_of
next_same r q a s =
    let n = a.show.playing in
    ite_both SameChosen (ℕ_discrete (playing r) 0) (ℕ_discrete (playing q) 0) _ _ _ _ (λ h. omega arith) (λ h. omega arith) (λ h. (refl, a))
    (λ h. moves_same r q a s (omega arith))

pub choose_same : (r q : Run) → AlikeRuns r q → SameChosen (choose_of r) (choose_of q)
unfolding choose_of choose_check
choose_same r q a =
    subst (λ (k : Check). SameChosen (choose_of r) (chosen_by k q))
    (ap₂ (λ (k : Check) (u : (Option ℕ)). first k (free_check u)) (sound_same r q a) a.underway) (from (choose_check r) refl)
  where
    from : (k : Check) → choose_check r ≡ k → SameChosen (chosen_by k r) (chosen_by k q)
    from (Ok tt) e = next_same r q a (sound_passed r (free_check r.underway) e)
    from (Err w) e = (refl, a)

-- ---- finish

-- One block fewer is left, of runs whose states and cycles agree.
landed_alike :
    (r q : Run) → AlikeRuns r q → SoundRun r → playing r ≤ length r.states → playing r ≤ length q.states → (i : ℕ) →
    r.underway ≡ Some i → AlikeRuns (landed r i) (landed q i)
unfolding landed counted
landed_alike r q a s n m i e =
    let f = a.left in
    ite_both AlikeRuns (dec_le r.left 1) (dec_le q.left 1) _ _ _ _ (λ h. omega arith) (λ h. omega arith)
    (λ h. cycle_alike (stored r i) (stored q i) there _ _ _ _ _ _ (onward_alike r q a 1) (left_there r q a s some 1) refl)
    (λ h. cycle_alike (stored r i) (stored q i) there _ _ _ _ _ _ a.place (omega arith) refl)
  where
    below : i < playing r
    below = read_below r s i e

    some : 0 < playing r
    some = let l = below in omega arith

    there : AlikeRuns (stored r i) (stored q i)
    there =
        states_alike r q a _ _
        (set_alike r.states q.states no_state (playing r) i _ _ n m
        (ap₂ (λ (d : Drive) (t : State). filled d.block t) a.show.drive (a.states i below)) a.states)

module _ (r q : Run) (n : Sized r) (m : Sized q) (a : AlikeRuns r q) (d : ℕ) where
  finished_alike : SoundRun r → AlikeRuns (landed_for r.underway (passed r d)) (landed_for q.underway (passed q d))
  unfolding passed
  finished_alike s =
      subst (λ (u : (Option ℕ)). AlikeRuns (landed_for r.underway (passed r d)) (landed_for u (passed q d))) a.underway
      (from r.underway refl)
    where
      p : AlikeRuns (passed r d) (passed q d)
      p = passed_alike r q a n m s d

      from : (u : (Option ℕ)) → r.underway ≡ u → AlikeRuns (landed_for u (passed r d)) (landed_for u (passed q d))
      from None e = p
      from (Some i) e =
          landed_alike (passed r d) (passed q d) p (passed_sound r d (few r n s) s)
          (let x = (passed_kept r d).sized in let y = few r n s in omega arith)
          (let x = (passed_kept q d).sized in let y = few_too r q a n m s in omega arith) i e

  pub finish_same : SameMoved (finish_of r d) (finish_of q d)
  unfolding finish_of finish_check
  finish_same =
      moved_same (finish_check r d) (finish_check q d) r q _ _
      (ap₂ (λ (k : Check) (u : (Option ℕ)). first k (first (span_check d) (busy_check u))) (sound_same r q a) a.underway) a
      (λ e. finished_alike (sound_passed r (first (span_check d) (busy_check r.underway)) e))
