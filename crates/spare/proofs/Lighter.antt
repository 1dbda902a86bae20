-- Demand 3, the spare time: a lighter run has no less to spare, where no session is behind its cushion at a lowered rate; and wherever
-- the heavier has 0 or more. Assumes nothing.
use Prim.Native.Nat.{ℕ, ◌+◌, ◌*◌, ◌≤◌, ◌<◌}
use mathlib.Core.Path.{sym, subst}
use mathlib.Core.Logic.{inl, inr}
use native.Mathlib.Omega.{arith}
use lib.IntN.{pos, sub_ℕ}
use lib.Signed.{◌≤ℤ◌}
use Rattle.theory.specs.Lighter.{Lighter}
use Rattle.theory.specs.Floor.{floor_z}
use Rattle.theory.specs.Shows.{load_of}
use Rattle.theory.specs.Slack.{rank}
use Rattle.theory.proofs.Floor.{floor_rises, floor_grows, floor_sign}
use Rattle.theory.proofs.Integers.{sub_le}
use Rattle.theory.proofs.Lighter.{lighter_times}
use Rattle.theory.proofs.Shows.{show_sound, lightened_lighter}
use Rattle.theory.proofs.Slack.{slack_ahead, slack_lighter}
use Rattle.verdict.specs.Answers.{set_of}
use Rattle.state.specs.declared.State.{State}
use Rattle.run.specs.declared.Run.{Run}
use Rattle.run.specs.Run.{playing, clip_at, state_at}
use Rattle.workahead.specs.Times.{ahead_by_state}
use Rattle.standing.specs.Times.{ahead_at, time_at, slack_time}
use Rattle.spare.specs.Laws.{Cushioned, Steady, Lightly}
use Rattle.workahead.proofs.Aheads.{ahead_floors}
use Rattle.standing.proofs.Countings.{counting}

module _ (a b : Run) (e : ℕ → ℕ) (h : Lightly a b e) where
  loads : Lighter (load_of a.show) (load_of b.show) e
  loads = lightened_lighter a.show b.show e h.lighter

  -- no workahead is smaller ..
  pub ahead_lighter : (i : ℕ) → i < playing a → Steady a b i (e i) → ahead_at b (e i) ≤ℤ ahead_at a i
  ahead_lighter i l c =
      subst (λ (s : State). ahead_by_state (clip_at b (e i)) s ≤ℤ ahead_at a i) (h.states i l)
      (rw (ahead_floors (clip_at a i) (state_at a i), ahead_floors (clip_at b (e i)) (state_at a i)) (from c))
    where
      P : ℕ
      P = (state_at a i).put * 1000000

      Y : ℕ
      Y = (clip_at a i).cushion * 1000000 + (state_at a i).clock

      Z : ℕ
      Z = (clip_at b (e i)).cushion * 1000000 + (state_at a i).clock

      more : P + Y ≤ P + Z
      more = let k = (loads.stream i l).cushion in omega arith

      some : 0 < (clip_at a i).rate
      some = (counting a h.light i l).rate

      from : Steady a b i (e i) → floor_z (sub_ℕ P Z) (clip_at b (e i)).rate ≤ℤ floor_z (sub_ℕ P Y) (clip_at a i).rate
      from (inl same) = rw (← same) (floor_rises (sub_ℕ P Z) (sub_ℕ P Y) (clip_at a i).rate some (sub_le P Z P Y more))
      from (inr kept) = floor_grows P Z P Y (clip_at b (e i)).rate (clip_at a i).rate some (loads.stream i l).rate kept more

  -- .. and no time longer ..
  pub time_lighter : (i : ℕ) → i < playing a → time_at a i ≤ time_at b (e i)
  time_lighter i l =
      lighter_times (load_of a.show) (load_of b.show) e loads (show_sound a.show h.light.within) (set_of a.counts)
      (set_of b.counts) h.after h.before i l

  -- .. so the slack is no smaller.
  pub spare_lighter : 0 < playing a → ((i : ℕ) → i < playing a → Steady a b i (e i)) → slack_time b ≤ℤ slack_time a
  spare_lighter z c =
      slack_lighter e (ahead_at b) (ahead_at a) (time_at b) (time_at a) (playing a) (playing b) z loads.inside loads.rising
      (λ i l. ahead_lighter i l (c i l)) time_lighter

  -- Where the heavier run has slack of 0 or more, no session of the lighter is behind its cushion ..
  pub slack_cushions : pos 0 ≤ℤ slack_time b → (i : ℕ) → i < playing a → Cushioned a i
  slack_cushions z i l =
      let x = slack_ahead (rank (ahead_at b) (playing b)) (ahead_at b) (time_at b) (playing b) (e i) (loads.inside i l) z in
      let y = subst (λ (s : State). pos 0 ≤ℤ ahead_by_state (clip_at b (e i)) s) (sym (h.states i l)) x in
      let f =
      floor_sign ((state_at a i).put * 1000000) ((clip_at b (e i)).cushion * 1000000 + (state_at a i).clock) (clip_at b (e i)).rate
      (rw (ahead_floors (clip_at b (e i)) (state_at a i)) at y) in
      let k = (loads.stream i l).cushion in
      omega arith

  -- .. so its slack is no smaller, whatever was lowered.
  pub spare_kept : 0 < playing a → pos 0 ≤ℤ slack_time b → slack_time b ≤ℤ slack_time a
  spare_kept z y = spare_lighter z (λ i l. inr (slack_cushions y i l))
