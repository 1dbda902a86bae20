-- Runs that differ in unused places alone have one workahead, one standing and one slack, and start alike. Assumes nothing.
use Rattle.std.specs.Prelude.{Ok, Err, false}
use Prim.Native.Nat.{ℕ, zero, suc, ◌≤◌, ◌<◌}
use mathlib.Core.Path.{◌≡◌, refl, ap, ap₂, ◌∙◌}
use mathlib.Core.Bool.{Bool}
use mathlib.Core.Logic.{ite}
use native.Mathlib.Omega.{arith}
use native.Mathlib.Decide.{dec_lt}
use mathlib.Core.List.{List}
use lib.IntN.{ℤ, pos}
use lib.ListN.{length, get_or}
use Rattle.show.specs.declared.Drive.{Drive}
use Rattle.show.specs.declared.refusal.Refusal.TheVariants as refusal
use Rattle.show.specs.Checks.{unless, first}
use Rattle.show.specs.Lists.{listed, padded}
use Rattle.show.proofs.Checks.{unless_within, first_left, first_right}
use Rattle.show.proofs.Lists.{listed_same}
use Rattle.cost.specs.declared.Cost.{Cost}
use Rattle.cost.specs.Bound.{worst_time}
use Rattle.cost.specs.Costs.{cost_of}
use Rattle.cost.proofs.Costs.{alike_cost}
use Rattle.showfile_write.proofs.Unused.{told_same}
use Rattle.theory.specs.Slack.{less?, rank, slack}
use Rattle.theory.specs.Shows.{load_of}
use Rattle.theory.proofs.Slack.{slack_same, rank_same}
use Rattle.verdict.specs.Answers.{set_of, times_of}
use Rattle.run.specs.declared.Run.{Run}
use Rattle.run.specs.Run.{playing, count_at, left_in}
use Rattle.run.specs.Sound.{SoundRun}
use Rattle.state.specs.Decisions.{false?}
use Rattle.run.specs.Decisions.{sound?, sound_check}
use Rattle.run.specs.Answers.{present_check, free_check}
use Rattle.standing.specs.declared.Standing.{Standing}
use Rattle.workahead.specs.Times.{ahead_by_state}
use Rattle.order.specs.Order.{named, ahead_in, places_of}
use Rattle.standing.specs.Times.{ahead_at, time_at, slack_time, place_at}
use Rattle.standing.specs.Standing.{aheads_of, standing_of}
use Rattle.standing.specs.Answers.{stood_by, stood_of}
use Rattle.order.proofs.Orders.{named_length, named_same}
use Rattle.standing.proofs.Standings.{surveyed}
use Rattle.spare.specs.Times.{start_order, running}
use Rattle.spare.specs.Answers.{workahead_of, some_check, slack_of, once_check, slack_check, start_check, start_of}
use Rattle.spare.proofs.Calls.{start_first}
use Rattle.promises.specs.Runs.{Sized}
use Rattle.promises.specs.Unseen.{AlikeRuns, SameMoved, SameSpared}
use Rattle.promises.proofs.Alike.{sound_same}
use Rattle.promises.proofs.AlikeSteps.{first_same, moved_same, spared_same, sound_passed, set_alike, session_same}

-- ---- workahead

ahead_alike : (r q : Run) → AlikeRuns r q → (i : ℕ) → i < playing r → ahead_at r i ≡ ahead_at q i
ahead_alike r q a i l = ap₂ ahead_by_state (a.show.sessions i l) (a.states i l)

pub workahead_same : (r q : Run) (i : ℕ) → AlikeRuns r q → SameSpared (workahead_of r i) (workahead_of q i)
unfolding workahead_of
workahead_same r q i a =
    spared_same (first (sound_check r) (present_check r i)) (first (sound_check q) (present_check q i)) (ahead_at r i) (ahead_at q i) r q
    (first_same (sound_check r) (sound_check q) (sound_same r q a) (λ e. session_same r q a i)) a
    (λ e.
    ahead_alike r q a i
    (unless_within (dec_lt i (playing r)) refusal.NoSession (first_right (sound_check r) (present_check r i) e)))

-- ---- slack and start

-- Rows that agree below n still do, with sessions named at the same places.
named_alike :
    (p : ℕ → ℕ) (l m : List ℕ) (n : ℕ) → n ≤ length l → n ≤ length m → ((j : ℕ) → j < n → get_or l j 0 ≡ get_or m j 0) →
    (k j : ℕ) → j < n → get_or (named p k l) j 0 ≡ get_or (named p k m) j 0
unfolding named
named_alike p l m n f g h zero j b = h j b
named_alike p l m n f g h (suc k) j b =
    let x = named_length p l k in
    let y = named_length p m k in
    set_alike (named p k l) (named p k m) 0 n (p k) k k (omega arith) (omega arith) refl (named_alike p l m n f g h k) j b

module _ (r q : Run) (a : AlikeRuns r q) where
  some_same : some_check r ≡ some_check q
  some_same = ap (λ (n : ℕ). unless (dec_lt 0 n) refusal.NoSession) a.show.playing

  place_alike : (i : ℕ) → i < playing r → place_at r i ≡ place_at q i
  place_alike i l =
      rank_same (ahead_at r) (ahead_at q) (playing r) i l (ahead_alike r q a) ∙ ap (λ (n : ℕ). rank (ahead_at q) n i) a.show.playing

  time_alike : SoundRun r → (i : ℕ) → i < playing r → time_at r i ≡ time_at q i
  time_alike s i l =
      ap₂ (λ (c : Cost) (n : ℕ). worst_time r.show.drive.cylinder c n) (alike_cost r.show q.show a.show s.within i l)
      (a.counts i l)
      ∙ ap (λ (d : Drive). worst_time d.cylinder (cost_of q.show i) (count_at q i)) a.show.drive

  slack_alike : SoundRun r → 0 < playing r → slack_time r ≡ slack_time q
  slack_alike s some =
      slack_same (rank (ahead_at r) (playing r)) (rank (ahead_at q) (playing r)) (ahead_at r) (ahead_at q) (time_at r) (time_at q) (playing r) some
      (λ i l. rank_same (ahead_at r) (ahead_at q) (playing r) i l (ahead_alike r q a)) (ahead_alike r q a) (time_alike s)
      ∙ ap (slack (ahead_at q) (time_at q)) a.show.playing

  pub spare_same : SameSpared (slack_of r) (slack_of q)
  unfolding slack_of
  spare_same =
      spared_same (first (sound_check r) (some_check r)) (first (sound_check q) (some_check q)) (slack_time r) (slack_time q) r q
      (first_same (sound_check r) (sound_check q) (sound_same r q a) (λ e. some_same)) a
      (λ e.
      slack_alike (sound_passed r (some_check r) e)
      (unless_within (dec_lt 0 (playing r)) refusal.NoSession (first_right (sound_check r) (some_check r) e)))

  standing_alike : SoundRun r → standing_of r ≡ standing_of q
  standing_alike s =
      let n = a.show.playing in
      let times : List ℕ = times_of (load_of r.show) (set_of r.counts) in
      let places : List ℕ = places_of (ahead_in (aheads_of r)) (playing r) in
      let with : ℕ → Standing = λ k. record { playing = k; aheads = aheads_of r; times = times; places = places } in
      ap with n
      ∙ surveyed q (aheads_of r) times places
      (ap (padded 16 (pos 0)) (listed_same (ahead_at r) (ahead_at q) (playing r) (ahead_alike r q a) ∙ ap (listed (ahead_at q)) n))
      (ap (padded 16 0) (listed_same (time_at r) (time_at q) (playing r) (time_alike s) ∙ ap (listed (time_at q)) n))
      (ap (places_of (ahead_in (aheads_of r))) n)

  pub stand_same : stood_of r ≡ stood_of q
  unfolding stood_of
  stand_same =
      told_same stood_by (λ w c d. refl) (sound_check r) (sound_check q) _ _ (sound_same r q a)
      (λ e. standing_alike (unless_within (sound? r) refusal.Damaged e))

  start_checks : start_check r ≡ start_check q
  unfolding start_check slack_check
  start_checks =
      first_same (sound_check r) (sound_check q) (sound_same r q a)
      (λ e.
      first_same (once_check r) (once_check q) (ap (λ (b : Bool). unless (false? b) refusal.AlreadyStarted) a.started)
      (λ f.
      first_same (free_check r.underway) (free_check q.underway) (ap free_check a.underway)
      (λ g.
      first_same (some_check r) (some_check q) some_same
      (λ h.
      ap (λ (z : ℤ). ite (less? z (pos 0)) (Err refusal.NegativeSlack) (Ok tt))
      (slack_alike (unless_within (sound? r) refusal.Damaged e) (unless_within (dec_lt 0 (playing r)) refusal.NoSession h))))))

  module _ (n : Sized r) (m : Sized q) (s : SoundRun r) (some : 0 < playing r) where
    order_alike : (k : ℕ) → k < playing r → get_or (start_order r) k 0 ≡ get_or (start_order q) k 0
    order_alike k l =
        let most = s.within.counts.sessions in
        let x = n.order in
        let y = m.order in
        ap (λ (o : List ℕ). get_or o k 0) (named_same (place_at r) (place_at q) (playing r) r.order place_alike)
        ∙ named_alike (place_at q) r.order q.order (playing r) (omega arith) (omega arith) a.order (playing r) k l
        ∙ ap (λ (j : ℕ). get_or (named (place_at q) j q.order) k 0) a.show.playing

    running_alike : AlikeRuns (running r) (running q)
    unfolding running left_in
    running_alike =
        let most = s.within.counts.sessions in
        let x = n.order in
        record {
          show = a.show;
          counts = a.counts;
          states = a.states;
          order = order_alike;
          place = refl;
          left = a.counts (get_or (start_order r) 0 0) (start_first r (omega arith) some) ∙ ap (count_at q) (order_alike 0 some);
          underway = a.underway;
          started = refl;
        }

  pub start_same : Sized r → Sized q → SameMoved (start_of r) (start_of q)
  unfolding start_of start_check
  start_same n m = moved_same (start_check r) (start_check q) r q (running r) (running q) start_checks a granted
    where
      granted : start_check r ≡ Ok tt → AlikeRuns (running r) (running q)
      granted e =
          let last = first (some_check r) (slack_check r) in
          let late = first (free_check r.underway) last in
          let f = first_right (once_check r) late (first_right (sound_check r) (first (once_check r) late) e) in
          let g = first_left (some_check r) (slack_check r) (first_right (free_check r.underway) last f) in
          running_alike n m (sound_passed r (first (once_check r) late) e) (unless_within (dec_lt 0 (playing r)) refusal.NoSession g)
