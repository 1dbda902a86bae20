-- Runs that differ in unused places alone: what holds of one holds of the other. Assumes nothing.
use Rattle.std.specs.Prelude.{Some}
use Prim.Native.Nat.{ℕ, ◌+◌, ◌%◌, ◌<◌}
use mathlib.Core.Path.{◌≡◌, refl, sym, ap, ap₂, subst, ◌∙◌}
use mathlib.Core.Bool.{Bool}
use native.Mathlib.Omega.{arith}
use Rattle.show.specs.declared.Drive.{Drive}
use Rattle.show.specs.declared.Session.{Session}
use Rattle.show.specs.declared.refusal.Refusal.TheVariants as refusal
use Rattle.show.specs.Limits.{ShowWithin}
use Rattle.show.proofs.Checks.{unless_kept, unless_broken}
use Rattle.show.proofs.Shows.{check_within, within_check, alike_check}
use Rattle.theory.specs.Counts.{Good}
use Rattle.theory.specs.Shows.{load_of}
use Rattle.theory.proofs.Rounds.{good_same}
use Rattle.theory.proofs.Shows.{alike_back, alike_good}
use Rattle.verdict.specs.Answers.{set_of}
use Rattle.state.specs.declared.State.{State}
use Rattle.run.specs.declared.Run.{Run}
use Rattle.state.specs.State.{Room, StateSound}
use Rattle.run.specs.Run.{playing, state_at, clip_at, count_at, seat_at, whole_at, left_in, left_at, onward, RoomAt, PutAt}
use Rattle.run.specs.Sound.{NamedOnce, Turning, Resting, MayRead, SoundRun}
use Rattle.run.specs.Decisions.{sound?, sound_check}
use Rattle.run.proofs.Steps.{seat_below, read_below}
use Rattle.promises.specs.Unseen.{AlikeRuns}

-- ---- alike

pub same_runs : (r : Run) → AlikeRuns r r
same_runs r =
    record {
      show = record { drive = refl; laid = refl; playing = refl; layouts = λ i l. refl; sessions = λ i l. refl };
      counts = λ i l. refl;
      states = λ i l. refl;
      order = λ k l. refl;
      place = refl;
      left = refl;
      underway = refl;
      started = refl;
    }

pub back : (r q : Run) → AlikeRuns r q → AlikeRuns q r
back r q a =
    let n = a.show.playing in
    record {
      show = alike_back r.show q.show a.show;
      counts = λ i l. sym (a.counts i (omega arith));
      states = λ i l. sym (a.states i (omega arith));
      order = λ k l. sym (a.order k (omega arith));
      place = sym a.place;
      left = sym a.left;
      underway = sym a.underway;
      started = sym a.started;
    }

-- What holds of one at a place that plays holds of the other.
module _ (r q : Run) (a : AlikeRuns r q) where
  pub room_alike : (i : ℕ) → i < playing r → RoomAt r i → RoomAt q i
  room_alike i l h =
      subst (λ (d : Drive). Room d.block (clip_at q i) (state_at q i)) a.show.drive
      (subst (λ (x : Session). Room r.show.drive.block x (state_at q i)) (a.show.sessions i l)
      (subst (Room r.show.drive.block (clip_at r i)) (a.states i l) h))

  pub put_alike : (i : ℕ) → i < playing r → PutAt r i → PutAt q i
  put_alike i l h =
      let e : (state_at r i).put ≡ (state_at q i).put = ap (λ (s : State). s.put) (a.states i l) in
      let f : r.show.drive.block ≡ q.show.drive.block = ap (λ (d : Drive). d.block) a.show.drive in
      omega arith

  pub onward_alike : (k : ℕ) → onward r k ≡ onward q k
  onward_alike k = ap₂ (λ (p n : ℕ). (p + k) % n) a.place a.show.playing

  module _ (s : SoundRun r) where
    within : ShowWithin q.show
    within = check_within q.show (sym (alike_check r.show q.show a.show) ∙ within_check r.show s.within)

    counts : Good (load_of q.show) (set_of q.counts)
    counts =
        let n = a.show.playing in
        good_same (load_of q.show) (set_of r.counts) (set_of q.counts) (λ i l. a.counts i (omega arith))
        (alike_good q.show r.show (alike_back r.show q.show a.show) within (set_of r.counts) s.counts)

    whole_alike : (k : ℕ) → k < playing r → whole_at r k ≡ whole_at q k
    whole_alike k l = a.counts (seat_at r k) (seat_below r s k l) ∙ ap (count_at q) (a.order k l)

    -- What is left when an operation begins is read off the counts and the order.
    pub left_alike : (k : ℕ) → k < playing r → left_at r k ≡ left_at q k
    unfolding left_in
    left_alike k l = whole_alike k l

    state_sound : (i : ℕ) → i < playing r → StateSound q.started (clip_at q i) (state_at q i)
    state_sound i l =
        subst (λ (b : Bool). StateSound b (clip_at q i) (state_at q i)) a.started
        (subst (λ (x : Session). StateSound r.started x (state_at q i)) (a.show.sessions i l)
        (subst (StateSound r.started (clip_at r i)) (a.states i l) (s.states i l)))

    names : (i : ℕ) → i < playing r → NamedOnce q.order (playing q) i
    names i l =
        let o = s.order i l in
        let n = a.show.playing in
        record {
          place = o.place;
          inside = (let h = o.inside in omega arith);
          names = sym (a.order o.place o.inside) ∙ o.names;
          only = λ k b e. o.only k (omega arith) (a.order k (omega arith) ∙ e);
        }

    turns : 0 < playing r → Turning q
    turns l =
        let t = s.cycle.turning l in
        let n = a.show.playing in
        let p = a.place in
        let e : whole_at r r.place ≡ whole_at q q.place = whole_alike r.place t.place ∙ ap (whole_at q) a.place in
        let b = t.left in
        let f = a.left in
        record {
          place = (let h = t.place in omega arith);
          left = record { low = (let h = b.low in omega arith); high = (let h = b.high in omega arith) };
        }

    rests : playing r ≡ 0 → Resting q
    rests e =
        let t = s.cycle.empty e in
        record { place = sym a.place ∙ t.place; left = sym a.left ∙ t.left; underway = sym a.underway ∙ t.underway }

    reads : (i : ℕ) → q.underway ≡ Some i → MayRead q i
    reads i e =
        let f = a.underway ∙ e in
        let m = s.cycle.underway i f in
        let l = read_below r s i f in
        let t = s.cycle.turning (omega arith) in
        record {
          seat = m.seat ∙ a.order r.place t.place ∙ ap (seat_at q) a.place;
          room = room_alike i l m.room;
          put = put_alike i l m.put;
        }

    pub still_sound : SoundRun q
    still_sound =
        let n = a.show.playing in
        record {
          within = within;
          counts = counts;
          states = λ i l. state_sound i (omega arith);
          order = λ i l. names i (omega arith);
          cycle = record { empty = λ e. rests (omega arith); turning = λ l. turns (omega arith); underway = reads };
        }

pub sound_same : (r q : Run) → AlikeRuns r q → sound_check r ≡ sound_check q
sound_same r q a =
    elim (sound? r) [
      | yes s ↦ unless_kept (sound? r) refusal.Damaged s ∙ sym (unless_kept (sound? q) refusal.Damaged (still_sound r q a s))
      | no n ↦
          unless_broken (sound? r) refusal.Damaged n
          ∙ sym (unless_broken (sound? q) refusal.Damaged (λ s. n (still_sound q r (back r q a) s)))
    ]
