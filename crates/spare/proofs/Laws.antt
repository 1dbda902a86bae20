-- Every call, granted or refused: workahead and slack hand the run back, and a start makes a sound run. Assumes nothing.
use Rattle.std.specs.Prelude.{Ok, Err, None}
use Prim.Native.Nat.{ℕ, ◌+◌, ◌*◌, ◌≤◌, ◌<◌}
use mathlib.Core.Path.{◌≡◌, refl, sym, ap, ◌∙◌}
use mathlib.Core.Bool.{false}
use mathlib.Core.Logic.{if_pos}
use native.Mathlib.Decide.{dec_lt}
use native.Mathlib.Nat.{mul_comm}
use native.Mathlib.Omega.{arith}
use lib.IntN.{ℤ, pos}
use lib.ListN.{length}
use lib.Signed.{◌≤ℤ◌, ◌<ℤ◌, clash_ℤ}
use Rattle.show.specs.Outcomes.{Check}
use Rattle.show.specs.declared.refusal.Refusal.{Refusal}
use Rattle.show.specs.declared.refusal.Refusal.TheVariants as refusal
use Rattle.show.specs.Checks.{first}
use Rattle.show.proofs.Checks.{within_refused, unless_within, first_left, first_right}
use Rattle.theory.specs.Sum.{sum_to}
use Rattle.theory.specs.Slack.{less?, slack_by}
use Rattle.theory.proofs.Floor.{floor_from}
use Rattle.theory.proofs.Slack.{slack_enough, claim_nine, rank_below}
use Rattle.run.specs.declared.Run.{Run}
use Rattle.run.specs.Run.{playing, state_at, clip_at}
use Rattle.run.specs.Sound.{SoundRun}
use Rattle.state.specs.Decisions.{false?}
use Rattle.run.specs.Decisions.{sound?, sound_check}
use Rattle.run.specs.Answers.{moved, present_check, free_check}
use Rattle.run.specs.Laws.{Ahead}
use Rattle.state.proofs.States.{true_false}
use Rattle.run.proofs.Lefts.{left_within}
use Rattle.run.proofs.Steps.{nothing_read}
use Rattle.run.proofs.Answered.{moved_either, moved_back, free_nothing}
use Rattle.run.specs.declared.Moved.{Moved}
use Rattle.standing.specs.Times.{ahead_at, time_at, slack_time, place_at}
use Rattle.spare.specs.Times.{start_order, running}
use Rattle.spare.specs.Answers.{spared, workahead_of, some_check, slack_of, once_check, slack_check, start_check, start_of}
use Rattle.spare.specs.Laws.{Started}
use Rattle.workahead.proofs.Aheads.{ahead_floors}
use Rattle.standing.proofs.Countings.{counting}
use Rattle.order.proofs.Orders.{named_length, named_above}
use Rattle.spare.proofs.Calls.{start_names, start_first, start_begins, begin_granted}

-- ---- workahead and slack

spared_run : (k : Check) (z : ℤ) (r : Run) → (spared k z r).run ≡ r
spared_run (Ok tt) z r = refl
spared_run (Err w) z r = refl

pub workahead_run : (r : Run) (i : ℕ) → (workahead_of r i).run ≡ r
unfolding workahead_of
workahead_run r i = spared_run (first (sound_check r) _) (ahead_at r i) r

pub slack_run : (r : Run) → (slack_of r).run ≡ r
unfolding slack_of
slack_run r = spared_run (first (sound_check r) (some_check r)) (slack_time r) r

-- No order gives more.
pub slack_most : (r : Run) (place : ℕ → ℕ) → 0 < playing r → slack_by place (ahead_at r) (time_at r) (playing r) ≤ℤ slack_time r
slack_most r place l = claim_nine place (ahead_at r) (time_at r) (playing r) l

-- ---- start

-- What a granted start rests on.
pub record Starts (r : Run) : Type 0 where
  pub sound : SoundRun r
  pub fresh : r.started ≡ false
  pub free : r.underway ≡ None
  pub some : 0 < playing r
  pub enough : slack_time r <ℤ pos 0 → ⊥

module _ (r : Run) where
  pub starts : start_check r ≡ Ok tt → Starts r
  unfolding start_check slack_check
  starts e =
      let last = first (some_check r) (slack_check r) in
      let late = first (free_check r.underway) last in
      let a = first_right (sound_check r) (first (once_check r) late) e in
      let b = first_right (once_check r) late a in
      let c = first_right (free_check r.underway) last b in
      record {
        sound = unless_within (sound? r) refusal.Damaged (first_left (sound_check r) (first (once_check r) late) e);
        fresh = unless_within (false? r.started) refusal.AlreadyStarted (first_left (once_check r) late a);
        free = free_nothing r.underway (first_left (free_check r.underway) last b);
        some = unless_within (dec_lt 0 (playing r)) refusal.NoSession (first_left (some_check r) (slack_check r) c);
        enough = λ l. within_refused (sym (first_right (some_check r) (slack_check r) c) ∙ if_pos (less? (slack_time r) (pos 0)) l _ _);
      }

  running_sound : length r.order ≡ 16 → Starts r → SoundRun (running r)
  unfolding running
  running_sound n s =
      let few = s.sound.within.counts.sessions in
      let f = start_first r (omega arith) s.some in
      record {
        within = s.sound.within;
        counts = s.sound.counts;
        states = λ i l.
            (let b = s.sound.states i l in
            record { put = b.put; taken = b.taken; held = b.held; clock = b.clock; early = λ e. true_false e });
        order = start_names r (omega arith);
        cycle =
            record {
              empty = λ e. absurd (let z = s.some in let f : ⊥ = omega arith in f);
              turning = λ l. record { place = l; left = left_within r.counts (start_order r) 0 (s.sound.counts.counted _ f) };
              underway = λ i e. nothing_read (sym s.free ∙ e);
            };
      }

  running_started : Started r (running r)
  unfolding running
  running_started =
      record {
        show = refl;
        counts = refl;
        states = refl;
        order = named_above (place_at r) r.order (playing r) (playing r) (rank_below (ahead_at r) (playing r));
        sized = named_length (place_at r) r.order (playing r);
        started = refl;
      }

  pub start_sound : length r.order ≡ 16 → SoundRun r → SoundRun (start_of r).run
  unfolding start_of
  start_sound n s = moved_either (start_check r) r (running r) SoundRun s (λ e. running_sound n (starts e))

  pub start_refused : (w : Refusal) → (start_of r).check ≡ Err w → (start_of r).run ≡ r
  unfolding start_of
  start_refused = moved_back (start_check r) r (running r)

  -- Granted, it had not started before.
  pub start_fresh : (start_of r).check ≡ Ok tt → r.started ≡ false
  unfolding start_of
  start_fresh e = from (start_check r) refl e
    where
      from : (k : Check) → start_check r ≡ k → (moved k r (running r)).check ≡ Ok tt → r.started ≡ false
      from (Ok tt) f g = (starts f).fresh
      from (Err w) f g = within_refused (sym g)

  pub start_granted : (start_of r).check ≡ Ok tt → Started r (start_of r).run
  unfolding start_of
  start_granted e = from (start_check r) e
    where
      from : (k : Check) → (moved k r (running r)).check ≡ Ok tt → Started r (moved k r (running r)).run
      from (Ok tt) f = running_started
      from (Err w) f = within_refused (sym f)

  -- More than a round ahead everywhere: the start is granted.
  module _ (s : SoundRun r) (l : 0 < playing r) (ahead : (i : ℕ) → i < playing r → Ahead r i) where
    far : (i : ℕ) → i < playing r → pos (sum_to (time_at r) (playing r)) ≤ℤ ahead_at r i
    far i m =
        let P = (state_at r i).put in
        let Y = (clip_at r i).cushion in
        let C = (state_at r i).clock in
        let L = sum_to (time_at r) (playing r) in
        let h : (clip_at r i).rate * L + (Y * 1000000 + C) < P * 1000000 = ahead i m in
        let g : L * (clip_at r i).rate + (Y * 1000000 + C) ≤ P * 1000000 = omega (arith, mul_comm (clip_at r i).rate L) in
        rw (ahead_floors (clip_at r i) (state_at r i)) (floor_from L (P * 1000000) (Y * 1000000 + C) (clip_at r i).rate (counting r s i m).rate g)

    pub far_slack : pos 0 ≤ℤ slack_time r
    far_slack = slack_enough _ (ahead_at r) (time_at r) (playing r) l far

    pub far_starts : r.started ≡ false → r.underway ≡ None → (start_of r).check ≡ Ok tt
    far_starts e u =
        ap (λ (m : Moved). m.check)
        (sym (start_begins r s e u _ l (begin_granted r (running r) (λ n. clash_ℤ n far_slack) refl)))

-- ---- a time that was told

time_told : (k : Check) (z y : ℤ) (r : Run) → (spared k z r).spare ≡ Ok y → (k ≡ Ok tt) × (y ≡ z)
time_told (Ok tt) z y r e = (refl, (let f : z ≡ y = cc in sym f))
time_told (Err w) z y r e = absurd (let z : ◌≡◌ {A = ℕ} 0 1 = cc in let f : ⊥ = omega arith in f)

pub workahead_told : (r : Run) (i : ℕ) (y : ℤ) → (workahead_of r i).spare ≡ Ok y → (i < playing r) × (y ≡ ahead_at r i)
unfolding workahead_of
workahead_told r i y e =
    let t = time_told (first (sound_check r) (present_check r i)) (ahead_at r i) y r e in
    (unless_within (dec_lt i (playing r)) refusal.NoSession (first_right (sound_check r) (present_check r i) t.0), t.1)

pub slack_told : (r : Run) (y : ℤ) → (slack_of r).spare ≡ Ok y → (0 < playing r) × (y ≡ slack_time r)
unfolding slack_of
slack_told r y e =
    let t = time_told (first (sound_check r) (some_check r)) (slack_time r) y r e in
    (unless_within (dec_lt 0 (playing r)) refusal.NoSession (first_right (sound_check r) (some_check r) t.0), t.1)
