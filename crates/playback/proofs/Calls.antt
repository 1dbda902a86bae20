-- What each call answers, case by case. Assumes nothing.
use Rattle.std.specs.Prelude.{Ok, Err, Some, None, Option}
use Prim.Native.Nat.{ℕ, ◌≤◌, ◌<◌}
use mathlib.Core.Path.{◌≡◌, refl, sym, ap, subst, ◌∙◌}
use native.Mathlib.Decide.{dec_le, dec_lt}
use native.Mathlib.Omega.{arith}
use mathlib.Core.List.{List}
use lib.ListN.{length, set}
use Rattle.std.proofs.lemmas.List.{set-get_or}
use Rattle.show.specs.Outcomes.{Check}
use Rattle.show.specs.declared.refusal.Refusal.TheVariants as refusal
use Rattle.show.proofs.Checks.{unless_kept, first_within}
use Rattle.state.specs.declared.State.{State}
use Rattle.state.specs.State.{no_state, drawn}
use Rattle.run.specs.declared.Run.{Run}
use Rattle.run.specs.Run.{span_most, playing, state_at, clip_at, left_at, PutAt, with_states, with_cycle}
use Rattle.run.specs.Answers.{moved}
use Rattle.run.specs.Seats.{Seated}
use Rattle.run.specs.Sound.{SoundRun}
use Rattle.run.specs.Steps.{states_after, passed, drawn_at, stored, landed}
use Rattle.run.proofs.Steps.{passed_sound, read_below}
use Rattle.run.proofs.Seats.{sound_seated}
use Rattle.run.proofs.Answered.{damaged_first, sound_then}
use Rattle.player.specs.declared.Drawn.{Drawn}
use Rattle.player.specs.Answers.{take_check as players_check, drawn_by, drawn_of}
use Rattle.player.proofs.Takes.{take_sound}
use Rattle.run.proofs.Answered.{granted, refused, moved_refused, moved_granted}
use Rattle.player.proofs.Laws.{take_answers}
use Rattle.run.specs.declared.Moved.{Moved}
use Rattle.playback.specs.Answers.{span_check, pass_check, pass_of, take_check, take_of}
use Rattle.playback.specs.Answers.{busy_check, finish_check, landed_for, finish_of}
use Rattle.playback.specs.Parts.{place_after, counted_off}
use Rattle.playback.proofs.Cycles.{counts_off}

short : (d : ℕ) → d ≤ span_most → span_check d ≡ Ok tt
short d l = unless_kept (dec_le d span_most) refusal.TooLong l

-- ---- pass

module _ (r : Run) (d : ℕ) where
  pub pass_damaged : (SoundRun r → ⊥) → refused r refusal.Damaged ≡ pass_of r d
  unfolding pass_of pass_check
  pass_damaged n = moved_refused _ r _ refusal.Damaged (damaged_first r _ n)

  module _ (s : SoundRun r) where
    pub pass_granted : (q : Run) → d ≤ span_most → q ≡ passed r d → granted q ≡ pass_of r d
    unfolding pass_of pass_check
    pass_granted q l e = moved_granted _ r _ q (sound_then r _ s ∙ short d l) e

-- ---- take

module _ (r : Run) (i n : ℕ) where
  pub take_damaged : (SoundRun r → ⊥) → refused r refusal.Damaged ≡ take_of r i n
  unfolding take_of take_check
  take_damaged b = moved_refused _ r _ refusal.Damaged (damaged_first r _ b)

  module _ (s : SoundRun r) where
    module _ (l : i < playing r) (d : Drawn) (e : d ≡ drawn_of (state_at r i) (clip_at r i) r.started n) where
      -- Of a session that plays, the player's answer counts.
      pub take_answered : take_check r i n ≡ d.check
      unfolding take_check
      take_answered =
          sound_then r _ s ∙ first_within _ _ (unless_kept (dec_lt i (playing r)) refusal.NoSession l)
          ∙ sym (take_sound _ _ _ n (s.states i l)) ∙ sym (take_answers (state_at r i) (clip_at r i) r.started n)
          ∙ ap (λ (x : Drawn). x.check) (sym e)

      -- Granted, the state has moved on; refused, it is put back as it was.
      pub take_next : ◌≡◌ {A = Moved} (record { check = d.check; run = with_states r (set r.states i d.state) }) (take_of r i n)
      unfolding take_of drawn_at drawn_of
      take_next =
          ap (λ (x : Drawn). record { check = x.check; run = with_states r (set r.states i x.state) }) e
          ∙ by_check (players_check r.started (clip_at r i) (state_at r i) n)
          ∙ ap (λ (k : Check). moved k r (drawn_at r i n))
          (sym (take_answers (state_at r i) (clip_at r i) r.started n) ∙ ap (λ (x : Drawn). x.check) (sym e) ∙ sym take_answered)
        where
          by_check :
              (k : Check) →
              (let x = drawn_by k (state_at r i) (drawn n (state_at r i)) in
              ◌≡◌ {A = Moved} (record { check = x.check; run = with_states r (set r.states i x.state) }) (moved k r (drawn_at r i n)))
          by_check (Ok tt) = refl
          by_check (Err w) = ap (λ (l : List State). record { check = Err w; run = with_states r l }) (set-get_or r.states i no_state)

-- ---- finish

advanced : (r : Run) (d : ℕ) (l : List State) → l ≡ states_after r.started r d → with_states r l ≡ passed r d
unfolding passed
advanced r d l e = ap (with_states r) e

module _ (r : Run) (d : ℕ) where
  pub finish_damaged : (SoundRun r → ⊥) → refused r refusal.Damaged ≡ finish_of r d
  unfolding finish_of finish_check
  finish_damaged n = moved_refused _ r _ refusal.Damaged (damaged_first r _ n)

  module _ (s : SoundRun r) where
    module _ (l : d ≤ span_most) where
      pub finish_nothing : r.underway ≡ None → refused r refusal.NothingUnderway ≡ finish_of r d
      unfolding finish_of finish_check
      finish_nothing e =
          moved_refused _ r _ refusal.NothingUnderway (sound_then r _ s ∙ first_within _ _ (short d l) ∙ ap busy_check e)

      pub finish_granted :
          (i : ℕ) (p q : Run) → r.underway ≡ Some i → p ≡ passed r d → q ≡ landed p i → granted q ≡ finish_of r d
      unfolding finish_of finish_check
      finish_granted i p q e f g =
          moved_granted _ r _ q (sound_then r _ s ∙ first_within _ _ (short d l) ∙ ap busy_check e)
          (g ∙ ap (λ (x : Run). landed x i) f ∙ ap (λ (u : (Option ℕ)). landed_for u (passed r d)) (sym e))

      -- the same from its parts: the states after d µs, the place and what is left
      pub finish_counted :
          (i : ℕ) (l : List State) (p fresh n : ℕ) → r.underway ≡ Some i → l ≡ states_after r.started r d →
          p ≡ place_after r.place r.left (playing r) → fresh ≡ left_at r p → n ≡ counted_off r.left fresh →
          granted (with_cycle (stored (with_states r l) i) p n None) ≡ finish_of r d
      unfolding landed
      finish_counted i l p fresh n e f g k h =
          finish_granted i (with_states r l) _ e (advanced r d l f) (counts_off (stored (with_states r l) i) p g n (h ∙ ap (counted_off r.left) k))

-- A session under way is one of sixteen, and the cycle is somewhere.
module _ (r : Run) (s : SoundRun r) (i : ℕ) (e : r.underway ≡ Some i) where
  pub read_few : i < 16
  read_few = let b = read_below r s i e in let n = s.within.counts.sessions in omega arith

  pub read_seated : Seated r
  read_seated = sound_seated r s (let b = read_below r s i e in omega arith)

-- The read under way is still under way after d µs.
pub passed_reads :
    (r : Run) (d i : ℕ) (q : Run) → length r.states ≡ 16 → SoundRun r → r.underway ≡ Some i → q ≡ passed r d →
    SoundRun q × (q.underway ≡ Some i)
unfolding passed
passed_reads r d i q n s e f =
    (subst SoundRun (sym f) (passed_sound r d (let h = s.within.counts.sessions in omega arith) s), ap (λ (x : Run). x.underway) f ∙ e)

-- Its block keeps to the limit on P.
pub advanced_put :
    (r : Run) (d i : ℕ) (l : List State) → length r.states ≡ 16 → SoundRun r → r.underway ≡ Some i →
    l ≡ states_after r.started r d → PutAt (with_states r l) i
advanced_put r d i l n s e f =
    let p = passed_reads r d i (with_states r l) n s e (advanced r d l f) in
    (p.0.cycle.underway i p.1).put
