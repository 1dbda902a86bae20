-- Shows and runs that differ in unused places alone are answered alike, and the runs stay so. Assumes nothing.
use Rattle.std.specs.Prelude.{Ok, Err}
use Prim.Native.Nat.{ℕ}
use mathlib.Core.Path.{◌≡◌, refl, sym, ap, ap₂, subst, ◌∙◌}
use mathlib.Core.Bool.{Bool}
use native.Mathlib.Omega.{arith}
use native.Mathlib.Decide.{dec_lt}
use mathlib.Core.List.{List}
use lib.ListN.{get_or}
use Rattle.show.specs.Outcomes.{Check}
use Rattle.show.specs.declared.Show.{Show}
use Rattle.show.specs.declared.refusal.Refusal.TheVariants as refusal
use Rattle.show.specs.Checks.{first}
use Rattle.show.specs.Limits.{Alike}
use Rattle.show.proofs.Checks.{unless_within, first_left, first_right}
use Rattle.show.proofs.Shows.{alike_check}
use Rattle.cost.proofs.WorstTimes.{alike_worst}
use Rattle.showfile_write.proofs.Unused.{written_same, buffer_same}
use Rattle.showfile_copy.proofs.UnusedAgain.{reread_same}
use Rattle.verdict.specs.declared.Decision.{Decision}
use Rattle.verdict.proofs.Once.{decision_once}
use Rattle.verdict.proofs.Unused.{alike_decision}
use Rattle.state.specs.declared.State.{State}
use Rattle.run.specs.declared.Run.{Run}
use Rattle.state.specs.State.{first_state}
use Rattle.run.specs.Run.{playing, state_at, left_in}
use Rattle.run.specs.Decisions.{sound_check}
use Rattle.run.specs.declared.Opened.{Opened}
use Rattle.run.specs.Opening.{OpenIs, opened_by, first_run, table_order, no_run}
use Rattle.run.specs.Answers.{present_check}
use Rattle.run.specs.Steps.{passed, drawn_at}
use Rattle.run.proofs.Begins.{first_state_at}
use Rattle.player.specs.Answers.{early_check, held_check}
use Rattle.playback.specs.Answers.{span_check, pass_check, pass_of, take_check, take_of}
use Rattle.promises.specs.Runs.{Sized}
use Rattle.promises.specs.Unseen.{AlikeRuns, SameMoved, SameOpened, Unseen}
use Rattle.promises.proofs.Alike.{same_runs, back, still_sound, sound_same}
use Rattle.promises.proofs.AlikeSteps.{first_same, moved_same, sound_passed, session_same, passed_alike, taken_alike}
use Rattle.promises.proofs.UnseenCycle.{choose_same, finish_same}
use Rattle.promises.proofs.AlikeStandings.{slack_in_same}
use Rattle.promises.proofs.UnseenStart.{workahead_same, stand_same, spare_same, start_same}

-- ---- pass and take

module _ (r q : Run) (n : Sized r) (m : Sized q) (a : AlikeRuns r q) where
  pass_same : (d : ℕ) → SameMoved (pass_of r d) (pass_of q d)
  unfolding pass_of pass_check
  pass_same d =
      moved_same (pass_check r d) (pass_check q d) r q (passed r d) (passed q d)
      (ap (λ (k : Check). first k (span_check d)) (sound_same r q a)) a
      (λ e. passed_alike r q a n m (sound_passed r (span_check d) e) d)

  take_checks : (i k : ℕ) → take_check r i k ≡ take_check q i k
  unfolding take_check
  take_checks i k =
      first_same (sound_check r) (sound_check q) (sound_same r q a)
      (λ e. first_same (present_check r i) (present_check q i) (session_same r q a i)
      (λ f.
      (let l = unless_within (dec_lt i (playing r)) refusal.NoSession f in
      ap₂ (λ (b : Bool) (t : State). first (early_check b) (held_check t k)) a.started (a.states i l))))

  take_same : (i k : ℕ) → SameMoved (take_of r i k) (take_of q i k)
  unfolding take_of take_check
  take_same i k =
      moved_same (take_check r i k) (take_check q i k) r q (drawn_at r i k) (drawn_at q i k) (take_checks i k) a granted
    where
      granted : take_check r i k ≡ Ok tt → AlikeRuns (drawn_at r i k) (drawn_at q i k)
      granted e =
          let late = first (early_check r.started) (held_check (state_at r i) k) in
          let f = first_left (present_check r i) late (first_right (sound_check r) (first (present_check r i) late) e) in
          taken_alike r q a n m (sound_passed r (first (present_check r i) late) e) i k
          (unless_within (dec_lt i (playing r)) refusal.NoSession f)

-- ---- opening

first_alike : (s t : Show) → Alike s t → (counts : List ℕ) → AlikeRuns (first_run s counts) (first_run t counts)
unfolding first_run
first_alike s t a counts =
    record {
      show = a;
      counts = λ i l. refl;
      states = λ i l.
          (let n = a.playing in first_state_at s i l ∙ ap first_state (a.sessions i l) ∙ sym (first_state_at t i (omega arith)));
      order = λ k l. ap (λ (n : ℕ). get_or (table_order n) k 0) a.playing;
      place = refl;
      left = ap (λ (n : ℕ). left_in counts (table_order n) 0) a.playing;
      underway = refl;
      started = refl;
    }

opened_same : (s t : Show) → Alike s t → (counts : List ℕ) (v : Check) → SameOpened (opened_by s counts v) (opened_by t counts v)
opened_same s t a counts (Ok tt) = (refl, first_alike s t a counts)
opened_same s t a counts (Err w) = (refl, same_runs no_run)

opening_same : (s t : Show) (o p : Opened) → Alike s t → OpenIs s o → OpenIs t p → SameOpened o p
opening_same s t o p a h g =
    let d = h.decision in
    let e : d ≡ g.decision = decision_once t d g.decision (alike_decision s t a d h.decides) g.decides in
    subst (λ (x : Opened). SameOpened x p) (sym h.answers)
    (subst (SameOpened (opened_by s d.counts d.verdict))
    (ap (λ (x : Decision). opened_by t x.counts x.verdict) e ∙ sym g.answers) (opened_same s t a d.counts d.verdict))

pub unseen : Unseen
unseen =
    record {
      check = alike_check;
      worst_time = λ s t i n a. alike_worst s t a i n;
      writing = λ s t note room a. written_same s t a note room;
      buffer = λ s t note b a. buffer_same s t a note b;
      rereading = λ s t note room a. reread_same s t a note room;
      back = back;
      sound = still_sound;
      pass = λ r q d n m a. pass_same r q n m a d;
      take = λ r q i k n m a. take_same r q n m a i k;
      choose = choose_same;
      finish = λ r q d n m a. finish_same r q n m a d;
      stand = stand_same;
      slack_in = slack_in_same;
      workahead = workahead_same;
      slack = spare_same;
      start = λ r q n m a. start_same r q a n m;
      opening = opening_same;
    }
