-- What each call answers, case by case. Assumes nothing.
use Rattle.std.specs.Prelude.{Ok, Err, None, Result}
use Prim.Native.Nat.{ℕ, ◌≤◌, ◌<◌}
use mathlib.Core.Path.{◌≡◌, refl, sym, ap, ◌∙◌}
use mathlib.Core.Bool.{true, false}
use mathlib.Core.Logic.{if_pos, if_neg}
use mathlib.Core.List.{List}
use native.Mathlib.Decide.{dec_lt}
use native.Mathlib.Omega.{arith}
use lib.IntN.{ℤ, pos}
use lib.ListN.{length, get_or}
use lib.Signed.{◌<ℤ◌}
use Rattle.show.specs.Outcomes.{Check}
use Rattle.show.specs.declared.refusal.Refusal.{Refusal}
use Rattle.show.specs.declared.refusal.Refusal.TheVariants as refusal
use Rattle.show.specs.Checks.{first}
use Rattle.show.proofs.Checks.{unless_kept, unless_broken, first_refused, first_within}
use Rattle.theory.specs.Slack.{less?}
use Rattle.theory.proofs.Slack.{rank_below, rank_apart}
use Rattle.run.specs.declared.Run.{Run}
use Rattle.run.specs.Run.{playing, clip_at, state_at, left_in}
use Rattle.run.specs.Sound.{SoundRun, NamesEach}
use Rattle.state.specs.Decisions.{false?}
use Rattle.run.specs.Answers.{moved, free_check}
use Rattle.run.proofs.Orders.{names_below}
use Rattle.run.proofs.Answered.{damaged_first, sound_then, granted, refused, moved_refused, moved_granted}
use Rattle.run.specs.declared.Moved.{Moved}
use Rattle.standing.specs.Standing.{standing_of}
use Rattle.workahead.specs.Answers.{ahead_for}
use Rattle.standing.specs.Answers.{slack_for}
use Rattle.standing.proofs.Calls.{run_nobody, run_slack, run_ahead}
use Rattle.spare.specs.declared.Spared.{Spared}
use Rattle.standing.specs.Times.{ahead_at, slack_time, place_at}
use Rattle.spare.specs.Times.{start_order, running}
use Rattle.spare.specs.Answers.{spared, workahead_of, some_check, slack_of, once_check, slack_check, start_check, start_of}
use Rattle.standing.proofs.Named.{named_each}

-- ---- by the check

abbrev timed : ℤ → Run → Spared
timed z r = record { spare = Ok z; run = r }

abbrev untimed : Run → Refusal → Spared
untimed r w = record { spare = Err w; run = r }

module _ (k : Check) (z : ℤ) (r : Run) where
  spared_refused : (w : Refusal) → k ≡ Err w → untimed r w ≡ spared k z r
  spared_refused w e = ap (λ (x : Check). spared x z r) (sym e)

  spared_timed : (y : ℤ) → k ≡ Ok tt → y ≡ z → timed y r ≡ spared k z r
  spared_timed y e f = ap (λ (x : ℤ). timed x r) f ∙ ap (λ (x : Check). spared x z r) (sym e)

-- ---- workahead

module _ (r : Run) (i : ℕ) where
  pub workahead_damaged : (SoundRun r → ⊥) → untimed r refusal.Damaged ≡ workahead_of r i
  unfolding workahead_of
  workahead_damaged n = spared_refused _ _ r refusal.Damaged (damaged_first r _ n)

  module _ (s : SoundRun r) where
    pub workahead_time : (z : ℤ) → i < playing r → z ≡ ahead_at r i → timed z r ≡ workahead_of r i
    unfolding workahead_of
    workahead_time z l e =
        spared_timed _ _ r z (sound_then r _ s ∙ unless_kept (dec_lt i (playing r)) refusal.NoSession l) e

    -- what `ahead_of` answers of its state
    pub workahead_for : (a : (Result ℤ Refusal)) → i < playing r → a ≡ ahead_for (clip_at r i) (state_at r i) → record { spare = a; run = r } ≡ workahead_of r i
    workahead_for a l e = ap answer (e ∙ sym (run_ahead r s i l)) ∙ workahead_time (ahead_at r i) l refl
      where
        answer : Result ℤ Refusal → Spared
        answer x = record { spare = x; run = r }

-- ---- slack

module _ (r : Run) where
  pub slack_damaged : (SoundRun r → ⊥) → untimed r refusal.Damaged ≡ slack_of r
  unfolding slack_of
  slack_damaged n = spared_refused _ _ r refusal.Damaged (damaged_first r _ n)

  nobody : playing r ≡ 0 → some_check r ≡ Err refusal.NoSession
  nobody e = unless_broken (dec_lt 0 (playing r)) refusal.NoSession (λ g. let f : ⊥ = omega arith in f)

  somebody : 0 < playing r → some_check r ≡ Ok tt
  somebody l = unless_kept (dec_lt 0 (playing r)) refusal.NoSession l

  module _ (s : SoundRun r) where
    pub slack_empty : playing r ≡ 0 → untimed r refusal.NoSession ≡ slack_of r
    unfolding slack_of
    slack_empty e = spared_refused _ _ r refusal.NoSession (sound_then r _ s ∙ nobody e)

    pub slack_time_is : (z : ℤ) → 0 < playing r → z ≡ slack_time r → timed z r ≡ slack_of r
    unfolding slack_of
    slack_time_is z l e = spared_timed _ _ r z (sound_then r _ s ∙ somebody l) e

    -- the slack of its standing
    pub slack_stood : (a : (Result ℤ Refusal)) → a ≡ slack_for (standing_of r) → record { spare = a; run = r } ≡ slack_of r
    slack_stood a e =
        elim (dec_lt 0 (playing r)) [
          | yes l ↦ ap answer (e ∙ sym (run_slack r s l)) ∙ slack_time_is (slack_time r) l refl
          | no n ↦ (let z : playing r ≡ 0 = omega arith in ap answer (e ∙ sym (run_nobody r s z)) ∙ slack_empty z)
        ]
      where
        answer : Result ℤ Refusal → Spared
        answer x = record { spare = x; run = r }

  -- ---- start

  pub begin_some : 0 < playing r → moved (slack_check r) r (running r) ≡ moved (first (some_check r) (slack_check r)) r (running r)
  begin_some l = ap (λ (x : Check). moved x r (running r)) (sym (first_within _ (slack_check r) (somebody l)))

  pub begin_empty : playing r ≡ 0 → refused r refusal.NoSession ≡ moved (first (some_check r) (slack_check r)) r (running r)
  begin_empty e = moved_refused _ r _ refusal.NoSession (first_refused _ (slack_check r) (nobody e))

  pub start_damaged : (SoundRun r → ⊥) → refused r refusal.Damaged ≡ start_of r
  unfolding start_of start_check
  start_damaged n = moved_refused _ r _ refusal.Damaged (damaged_first r _ n)

  module _ (s : SoundRun r) where
    module _ (e : r.started ≡ false) where
      fresh : (c : Check) → first (once_check r) c ≡ c
      fresh c = first_within _ c (unless_kept (false? r.started) refusal.AlreadyStarted e)

      module _ (u : r.underway ≡ None) where
        free : (c : Check) → first (free_check r.underway) c ≡ c
        free c = first_within _ c (ap free_check u)

        pub start_begun : (m : Moved) → m ≡ moved (first (some_check r) (slack_check r)) r (running r) → m ≡ start_of r
        unfolding start_of start_check
        start_begun m f = f ∙ ap (λ (x : Check). moved x r (running r)) (sym (sound_then r _ s ∙ fresh _ ∙ free _))

        pub start_begins : (m : Moved) → 0 < playing r → m ≡ moved (slack_check r) r (running r) → m ≡ start_of r
        start_begins m l f = start_begun m (f ∙ begin_some l)

  pub begin_negative : slack_time r <ℤ pos 0 → refused r refusal.NegativeSlack ≡ moved (slack_check r) r (running r)
  unfolding slack_check
  begin_negative l = moved_refused _ r _ refusal.NegativeSlack (if_pos (less? (slack_time r) (pos 0)) l _ _)

  pub begin_granted : (q : Run) → (slack_time r <ℤ pos 0 → ⊥) → q ≡ running r → granted q ≡ moved (slack_check r) r (running r)
  unfolding slack_check
  begin_granted q l e = moved_granted _ r _ q (if_neg (less? (slack_time r) (pos 0)) l _ _) e

-- ---- the cycle after the start

module _ (r : Run) (n : playing r ≤ length r.order) where
  pub start_names : NamesEach (start_order r) (playing r)
  start_names =
      named_each (place_at r) r.order (playing r) n (rank_below (ahead_at r) (playing r)) (rank_apart (ahead_at r) (playing r))

  pub start_first : 0 < playing r → get_or (start_order r) 0 0 < playing r
  start_first l = names_below (start_order r) (playing r) start_names 0 l

pub cycling_is :
    (r : Run) (o : List ℕ) (left : ℕ) → o ≡ start_order r → left ≡ left_in r.counts o 0 →
    record {
      show = r.show;
      counts = r.counts;
      states = r.states;
      order = o;
      place = 0;
      left = left;
      underway = r.underway;
      started = true;
    } ≡ running r
unfolding running
cycling_is r o left e f = rw (f, e)
