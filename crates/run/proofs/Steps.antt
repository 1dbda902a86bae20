-- A step on a sound run makes a sound run. Assumes nothing.
use Rattle.std.specs.Prelude.{Some, None, Option}
use Prim.Native.Nat.{ℕ, zero, suc, ◌+◌, ◌-◌, ◌≤◌, ◌<◌}
use mathlib.Core.Path.{◌≡◌, refl, sym, ◌∙◌}
use mathlib.Core.Bool.{Bool, true, false}
use mathlib.Core.Logic.{ite}
use mathlib.Core.List.{List}
use native.Mathlib.Decide.{dec_lt, dec_le}
use native.Mathlib.Nat.{le_refl, mod-lt, mod-eq_of_lt}
use native.Mathlib.Omega.{arith}
use lib.ListN.{length, get_or, set}
use Rattle.show.specs.Limits.{Between}
use Rattle.state.specs.declared.State.{State}
use Rattle.run.specs.declared.Run.{Run}
use Rattle.state.specs.State.{no_state, StateSound}
use Rattle.run.specs.Run.{playing, state_at, clip_at, seat_at, whole_at, left_at, onward, RoomAt, PutAt}
use Rattle.run.specs.Run.{with_states, with_cycle}
use Rattle.run.specs.Sound.{StatesSound, Turning, Resting, MayRead, SoundRun}
use Rattle.run.specs.Steps.{ticked_at, states_after, passed, drawn_at, idled, left_past, begun}
use Rattle.run.specs.Steps.{stored, counted, landed}
use Rattle.state.proofs.States.{ticked_sound, drawn_sound, filled_sound}
use Rattle.run.proofs.Orders.{names_below}
use Rattle.run.proofs.Changed.{changed_below, set_each}
use Rattle.run.proofs.Lefts.{left_within}

pub nothing_read : {X : Type 0} {i : ℕ} → None ≡ Some i → X
nothing_read e = let z : ◌≡◌ {A = ℕ} 0 1 = cc in absurd (let f : ⊥ = omega arith in f)

-- what holds either way
pub ite_either : {A Q : Type 0} (P : A → Type 0) (d : Dec Q) (a b : A) → (Q → P a) → ((Q → ⊥) → P b) → P (ite d a b)
ite_either P (yes h) a b f g = f h
ite_either P (no h) a b f g = g h

-- ---- of one session

-- Nothing put, and no less taken: what had room has room.
record Later (s t : State) : Type 0 where
  put : t.put ≡ s.put
  taken : s.taken ≤ t.taken

same_later : {s : State} → Later s s
same_later = record { put = refl; taken = le_refl _ }

-- ---- of a run

-- Some places on is a place.
pub onward_below : (r : Run) (k : ℕ) → 0 < playing r → onward r k < playing r
onward_below r k h = mod-lt (r.place + k) h

-- other states, and another moment of the cycle
abbrev moved : Run → List State → ℕ → ℕ → Option ℕ → Run
moved r l place left u = with_cycle (with_states r l) place left u

module _ (r : Run) (s : SoundRun r) where
  pub seat_below : (k : ℕ) → k < playing r → seat_at r k < playing r
  seat_below k l = names_below r.order (playing r) s.order k l

  -- no count is 0
  whole_some : (k : ℕ) → k < playing r → 1 ≤ whole_at r k
  whole_some k l = s.counts.counted (seat_at r k) (seat_below k l)

  -- An operation that begins has something left, and no more than the count.
  left_at_within : (k : ℕ) → k < playing r → Between 1 (left_at r k) (whole_at r k)
  left_at_within k l = left_within r.counts r.order k (whole_some k l)

  -- A read is under way only on a session that plays.
  pub read_below : (i : ℕ) → r.underway ≡ Some i → i < playing r
  read_below i e =
      elim (dec_lt 0 (playing r)) [
        | yes l ↦
            (let place = (s.cycle.turning l).place in
            rw (s.cycle.underway i e).seat (seat_below r.place place))
        | no l ↦ nothing_read (sym (s.cycle.empty (omega arith)).underway ∙ e)
      ]

  -- Other states: a session whose read is under way keeps its room.
  replaced_sound :
      (l : List State) → StatesSound (with_states r l) →
      ((i : ℕ) → i < playing r → Later (state_at r i) (get_or l i no_state)) → SoundRun (with_states r l)
  replaced_sound l h g =
      record {
        within = s.within;
        counts = s.counts;
        states = h;
        order = s.order;
        cycle = record { empty = rests; turning = turns; underway = reads };
      }
    where
      rests : playing r ≡ 0 → Resting (with_states r l)
      rests e = let c = s.cycle.empty e in record { place = c.place; left = c.left; underway = c.underway }

      turns : 0 < playing r → Turning (with_states r l)
      turns b = let c = s.cycle.turning b in record { place = c.place; left = c.left }

      reads : (i : ℕ) → r.underway ≡ Some i → MayRead (with_states r l) i
      reads i e =
          let c = s.cycle.underway i e in
          let p = g i (read_below i e) in
          let room = c.room in
          let most = c.put in
          let a = p.put in
          let b = p.taken in
          record { seat = c.seat; room = omega arith; put = omega arith }

  -- one state replaced
  set_sound :
      (i : ℕ) (t : State) → playing r ≤ length r.states → i < playing r → StateSound r.started (clip_at r i) t →
      StatesSound (with_states r (set r.states i t))
  set_sound i t n l h = set_each (λ j x. StateSound r.started (clip_at r j) x) r.states (playing r) i t n l h s.states

  -- Another moment of the cycle, with its states.
  moved_sound :
      (l : List State) (place left : ℕ) (u : (Option ℕ)) → StatesSound (with_states r l) → place < playing r →
      Between 1 left (whole_at r place) → ((i : ℕ) → u ≡ Some i → MayRead (moved r l place left u) i) →
      SoundRun (moved r l place left u)
  moved_sound l place left u h inside b reads =
      record {
        within = s.within;
        counts = s.counts;
        states = h;
        order = s.order;
        cycle =
            record {
              empty = λ e. absurd (let f : ⊥ = omega arith in f);
              turning = λ c. record { place = inside; left = b };
              underway = reads;
            };
      }

-- ---- the steps

-- Before the start nothing changes.
pub passed_sound : (r : Run) (d : ℕ) → playing r ≤ length r.states → SoundRun r → SoundRun (passed r d)
unfolding passed
passed_sound r d n s = from r.started refl
  where
    from : (b : Bool) → r.started ≡ b → SoundRun (with_states r (states_after b r d))
    from false e = s
    from true e =
        replaced_sound r s _
        (λ i l. rw (changed_below (ticked_at r d) (playing r) r.states i l n) (ticked_sound (s.states i l) _ d e))
        (λ i l. rw (changed_below (ticked_at r d) (playing r) r.states i l n) (record { put = refl; taken = le_refl _ }))

pub taken_sound :
    (r : Run) (i n : ℕ) → playing r ≤ length r.states → SoundRun r → i < playing r → r.started ≡ true →
    n ≤ (state_at r i).put - (state_at r i).taken → SoundRun (drawn_at r i n)
unfolding drawn_at
taken_sound r i n k s l e h =
    replaced_sound r s _ (set_sound r s i _ k l (drawn_sound (s.states i l) n e h))
    (set_each (λ j t. Later (state_at r j) t) r.states (playing r) i _ k l (record { put = refl; taken = omega arith })
    (λ j m. same_later))

-- A read under way stands as it was.
pub idled_sound : (r : Run) → SoundRun r → 0 < playing r → SoundRun (idled r)
unfolding idled
idled_sound r s l =
    let place = (s.cycle.turning l).place in
    moved_sound r s r.states r.place (left_at r r.place) r.underway s.states place (left_at_within r s r.place place)
    (λ i e. (let m = s.cycle.underway i e in record { seat = m.seat; room = m.room; put = m.put }))

pub begun_sound :
    (r : Run) (place left : ℕ) → SoundRun r → place < playing r → Between 1 left (whole_at r place) → RoomAt r (seat_at r place) →
    PutAt r (seat_at r place) → SoundRun (begun r place left)
unfolding begun
begun_sound r place left s inside b room most =
    moved_sound r s r.states place left (Some (seat_at r place)) s.states inside b
    (λ i e. (let f : i ≡ seat_at r place = cc in record { seat = f; room = rw f room; put = rw f most }))

-- Where none is skipped the place stays, and what is left there.
pub past_within : (r : Run) (k : ℕ) → SoundRun r → 0 < playing r → Between 1 (left_past r k) (whole_at r (onward r k))
past_within r zero s some =
    let c = s.cycle.turning some in
    let f : r.place + 0 ≡ r.place = omega arith in
    let e : onward r 0 ≡ r.place = rw f (mod-eq_of_lt c.place) in
    rw e c.left
past_within r (suc k) s some = left_at_within r s (onward r (suc k)) (onward_below r (suc k) some)

pub landed_sound :
    (r : Run) (i : ℕ) → playing r ≤ length r.states → SoundRun r → r.underway ≡ Some i → SoundRun (landed r i)
unfolding landed counted
landed_sound r i n s e =
    ite_either SoundRun (dec_le r.left 1) _ _
    (λ l. moved_sound r s _ (onward r 1) _ None states next (left_at_within r s (onward r 1) next) (λ k f. nothing_read f))
    (λ l. moved_sound r s _ r.place _ None states cycle.place (fewer l) (λ k f. nothing_read f))
  where
    below : i < playing r
    below = read_below r s i e

    some : 0 < playing r
    some = let l = below in omega arith

    states : StatesSound (stored r i)
    states =
        let m = s.cycle.underway i e in
        set_sound r s i _ n below (filled_sound (s.states i below) r.show.drive.block m.room m.put)

    cycle : Turning r
    cycle = s.cycle.turning some

    next : onward r 1 < playing r
    next = onward_below r 1 some

    fewer : (r.left ≤ 1 → ⊥) → Between 1 (r.left - 1) (whole_at r r.place)
    fewer l = let b = cycle.left.high in record { low = omega arith; high = omega arith }
