-- How the sessions of a sound run stand: times and workaheads are small, and the least to spare is the slack. Assumes nothing.
use Prim.Native.Nat.{ℕ, suc, ◌+◌, ◌^◌, ◌≤◌, ◌<◌}
use mathlib.Core.Path.{◌≡◌, sym, ap, subst, ◌∙◌}
use mathlib.Core.List.{List}
use native.Mathlib.Omega.{arith}
use native.Mathlib.Nat.{le_of_lt}
use lib.IntN.{ℤ, pos, negsuc, ◌-ℤ◌}
use lib.Signed.{mag}
use mir.Syntax.{w64}
use mir.Val.{SFits}
use Rattle.show.proofs.Lists.{filled_at}
use Rattle.cost.specs.Bound.{worst_most}
use Rattle.cost.proofs.Bound.{worst_capped}
use Rattle.cost.proofs.Costs.{cost_limited}
use Rattle.theory.specs.Slack.{rank}
use Rattle.theory.specs.Shows.{load_of}
use Rattle.theory.proofs.Integers.{sub_pos, sub_less, from_negsuc}
use Rattle.theory.proofs.Shows.{feasible_few}
use Rattle.theory.proofs.Slack.{slack_same, rank_same, rank_below, rank_apart}
use Rattle.trial.specs.declared.Trial.{Trial}
use Rattle.verdict.specs.Answers.{set_of, times_of}
use Rattle.trial.specs.Answers.{TrialIs, holds}
use Rattle.trial.proofs.Once.{trial_once}
use Rattle.verdict.proofs.Sets.{set_of_row}
use Rattle.run.specs.declared.Run.{Run}
use Rattle.run.specs.Run.{playing, state_at, clip_at}
use Rattle.run.specs.Sound.{SoundRun}
use Rattle.standing.specs.declared.Standing.{Standing}
use Rattle.standing.specs.Times.{ahead_at, time_at, slack_time, place_at}
use Rattle.order.specs.Order.{ahead_in, place_in, places_of}
use Rattle.standing.specs.Standing.{aheads_of, PlacedBelow, standing_of, Fit, standing_slack}
use Rattle.workahead.proofs.Aheads.{ahead_small, sub_most}
use Rattle.standing.proofs.Countings.{counting}

-- ---- what stands in the rows of a sound run

module _ (r : Run) where
  pub ahead_in_is : (i : ℕ) → i < playing r → ahead_in (aheads_of r) i ≡ ahead_at r i
  ahead_in_is i l = filled_at 16 (pos 0) (ahead_at r) (playing r) i (pos 0) l

  pub place_in_is : (i : ℕ) → i < playing r → place_in (places_of (ahead_in (aheads_of r)) (playing r)) i ≡ place_at r i
  place_in_is i l =
      filled_at 16 0 (rank (ahead_in (aheads_of r)) (playing r)) (playing r) i 0 l
      ∙ rank_same (ahead_in (aheads_of r)) (ahead_at r) (playing r) i l ahead_in_is

  time_in : (i : ℕ) → i < playing r → set_of (times_of (load_of r.show) (set_of r.counts)) i ≡ time_at r i
  time_in i l = set_of_row (load_of r.show) (time_at r) i l

  pub placed_below : PlacedBelow (places_of (ahead_in (aheads_of r)) (playing r)) (playing r)
  placed_below i l = rw (place_in_is i l) (rank_below (ahead_at r) (playing r) i l)

  -- The least that a session has to spare there is the slack.
  pub slack_in_is : 0 < playing r → standing_slack (standing_of r) ≡ slack_time r
  slack_in_is z = slack_same _ _ _ _ _ _ (playing r) z place_in_is ahead_in_is time_in

  module _ (s : SoundRun r) where
    pub time_small : (i : ℕ) → i < playing r → time_at r i < worst_most
    time_small i l =
        worst_capped _ _ (cost_limited r.show s.within i l) _
        (le_of_lt (feasible_few r.show s.within (set_of r.counts) s.counts.feasible i l))

    pub standing_fit : (t : Standing) → t ≡ standing_of r → Fit t
    standing_fit t e = subst Fit (sym e) fit
      where
        fit : Fit (standing_of r)
        fit =
            record {
              few = s.within.counts.sessions;
              times = λ i l. rw (time_in i l) (time_small i l);
              aheads = λ i l. rw (ahead_in_is i l) (let k = counting r s i l in ahead_small (clip_at r i) (state_at r i) k.put k.cushion k.clock);
              below = placed_below;
              apart = λ i j l m e. rank_apart (ahead_at r) (playing r) i j l m (sym (place_in_is i l) ∙ e ∙ place_in_is j m);
            }

    -- The times of a sound run's counts are those of its trial.
    pub trial_times : (t : Trial) → TrialIs r.show r.counts t → t.times ≡ times_of (load_of r.show) (set_of r.counts)
    trial_times t h = ap (λ (x : Trial). x.times) (trial_once _ _ t _ h (holds s.within s.counts))

pub surveyed :
    (r : Run) (a : List ℤ) (t p : List ℕ) → a ≡ aheads_of r → t ≡ times_of (load_of r.show) (set_of r.counts) →
    p ≡ places_of (ahead_in a) (playing r) → record { playing = playing r; aheads = a; times = t; places = p } ≡ standing_of r
surveyed r a t p e f g =
    let h : p ≡ places_of (ahead_in (aheads_of r)) (playing r) = g ∙ ap (λ (x : List ℤ). places_of (ahead_in x) (playing r)) e in
    rw (e, f, h)

-- ---- what a session has to spare

pub less_small : (z : ℤ) (k : ℕ) → mag z < 2 ^ 62 → k ≤ 2 ^ 61 → SFits w64 (z -ℤ pos k)
less_small (pos n) k h l = rw (sub_pos n k) (record { sfits = sub_most n k (2 ^ 63) (omega arith) (omega arith) })
less_small (negsuc n) k h l =
    rw (from_negsuc n, sub_less 0 (suc n) k) (record { sfits = sub_most 0 (suc n + k) (2 ^ 63) (omega arith) (omega arith) })
