-- Every call on a run, granted or refused: a sound run stays sound, and refused it is the run that was given. Assumes nothing.
use Rattle.std.specs.Prelude.{Ok, Err, Some, None, Option}
use Prim.Native.Nat.{ℕ, ◌-◌, ◌≤◌, ◌<◌}
use mathlib.Core.Path.{◌≡◌, refl, sym, subst, ◌∙◌}
use mathlib.Core.Bool.{true}
use lib.ListN.{length}
use native.Mathlib.Decide.{dec_le, dec_lt}
use native.Mathlib.Omega.{arith}
use Rattle.show.specs.declared.refusal.Refusal.{Refusal}
use Rattle.show.specs.declared.refusal.Refusal.TheVariants as refusal
use Rattle.show.specs.Checks.{first}
use Rattle.show.proofs.Checks.{within_refused, unless_within, first_left, first_right}
use Rattle.run.specs.declared.Run.{Run}
use Rattle.run.specs.Run.{playing, clip_at, state_at}
use Rattle.run.specs.Sound.{SoundRun}
use Rattle.state.specs.Decisions.{true?}
use Rattle.run.specs.Decisions.{sound?, sound_check}
use Rattle.run.specs.Steps.{passed, drawn_at, landed}
use Rattle.run.specs.Answers.{present_check}
use Rattle.run.specs.Laws.{Kept}
use Rattle.run.proofs.Answered.{moved_check, moved_either, moved_back}
use Rattle.run.proofs.Steps.{passed_sound, taken_sound, landed_sound, read_below}
use Rattle.run.proofs.Rest.{same_kept, passed_kept, taken_kept, landed_kept, kept_then}
use Rattle.player.specs.Answers.{early_check, held_check, drawn_of}
use Rattle.playback.specs.Answers.{span_check, pass_check, pass_of, take_check, take_of}
use Rattle.playback.specs.Answers.{busy_check, finish_check, landed_for, finish_of}
use Rattle.playback.proofs.Calls.{take_answered, passed_reads}

-- ---- pass

module _ (r : Run) (d : ℕ) where
  pub pass_sound : playing r ≤ length r.states → SoundRun r → SoundRun (pass_of r d).run
  unfolding pass_of
  pass_sound n s = moved_either (pass_check r d) r (passed r d) SoundRun s (λ e. passed_sound r d n s)

  pub pass_kept : Kept r (pass_of r d).run
  unfolding pass_of
  pass_kept = moved_either (pass_check r d) r (passed r d) (Kept r) (same_kept r) (λ e. passed_kept r d)

  pub pass_refused : (w : Refusal) → (pass_of r d).check ≡ Err w → (pass_of r d).run ≡ r
  unfolding pass_of
  pass_refused = moved_back (pass_check r d) r (passed r d)

-- ---- take

-- What a granted take rests on.
record Takes (r : Run) (i n : ℕ) : Type 0 where
  playing : i < playing r
  started : r.started ≡ true
  held : n ≤ (state_at r i).put - (state_at r i).taken

module _ (r : Run) (i n : ℕ) where
  takes : take_check r i n ≡ Ok tt → Takes r i n
  unfolding take_check
  takes e =
      let late = first (early_check r.started) (held_check (state_at r i) n) in
      let a = first_right (sound_check r) (first (present_check r i) late) e in
      let b = first_right (present_check r i) late a in
      record {
        playing = unless_within (dec_lt i (playing r)) refusal.NoSession (first_left (present_check r i) late a);
        started = unless_within (true? r.started) refusal.NotStarted (first_left (early_check r.started) (held_check (state_at r i) n) b);
        held =
            unless_within (dec_le n ((state_at r i).put - (state_at r i).taken)) refusal.TooMuch
            (first_right (early_check r.started) (held_check (state_at r i) n) b);
      }

  pub take_sound : playing r ≤ length r.states → SoundRun r → SoundRun (take_of r i n).run
  unfolding take_of
  take_sound k s =
      moved_either (take_check r i n) r (drawn_at r i n) SoundRun s
      (λ e. (let t = takes e in taken_sound r i n k s t.playing t.started t.held))

  pub take_kept : Kept r (take_of r i n).run
  unfolding take_of
  take_kept = moved_either (take_check r i n) r (drawn_at r i n) (Kept r) (same_kept r) (λ e. taken_kept r i n (takes e).playing)

  pub take_refused : (w : Refusal) → (take_of r i n).check ≡ Err w → (take_of r i n).run ≡ r
  unfolding take_of
  take_refused = moved_back (take_check r i n) r (drawn_at r i n)

  -- Of a session that plays, a take on the run is the player's.
  pub take_players :
      SoundRun r → i < playing r → (take_of r i n).check ≡ (drawn_of (state_at r i) (clip_at r i) r.started n).check
  unfolding take_of
  take_players s l = moved_check (take_check r i n) r (drawn_at r i n) ∙ take_answered r i n s l _ refl

-- ---- finish

-- What a granted finish rests on.
record Finishes (r : Run) : Type 0 where
  sound : SoundRun r
  session : ℕ
  underway : r.underway ≡ Some session

busy : (u : (Option ℕ)) → busy_check u ≡ Ok tt → (i : ℕ) × (u ≡ Some i)
busy None e = within_refused (sym e)
busy (Some i) e = (i, refl)

module _ (r : Run) (d : ℕ) where
  finishes : finish_check r d ≡ Ok tt → Finishes r
  unfolding finish_check
  finishes e =
      let late = first (span_check d) (busy_check r.underway) in
      let b = busy r.underway (first_right (span_check d) (busy_check r.underway) (first_right (sound_check r) late e)) in
      record { sound = unless_within (sound? r) refusal.Damaged (first_left (sound_check r) late e); session = b.0; underway = b.1 }

  abbrev next : Run
  next = landed_for r.underway (passed r d)

  -- the next run, by the session under way
  next_either : (P : Run → Type 0) (f : Finishes r) → P (landed (passed r d) f.session) → P next
  next_either P f h = subst (λ (u : (Option ℕ)). P (landed_for u (passed r d))) (sym f.underway) h

  pub finish_sound : length r.states ≡ 16 → SoundRun r → SoundRun (finish_of r d).run
  unfolding finish_of
  finish_sound n s =
      moved_either (finish_check r d) r next SoundRun s (λ e. next_either SoundRun (finishes e) (lands (finishes e)))
    where
      lands : (f : Finishes r) → SoundRun (landed (passed r d) f.session)
      lands f =
          let p = passed_reads r d f.session (passed r d) n s f.underway refl in
          let z = (passed_kept r d).sized in
          let few = p.0.within.counts.sessions in
          landed_sound (passed r d) f.session (omega arith) p.0 p.1

  pub finish_kept : length r.states ≡ 16 → Kept r (finish_of r d).run
  unfolding finish_of
  finish_kept n =
      moved_either (finish_check r d) r next (Kept r) (same_kept r) (λ e. next_either (Kept r) (finishes e) (lands (finishes e)))
    where
      lands : (f : Finishes r) → Kept r (landed (passed r d) f.session)
      lands f =
          let p = passed_reads r d f.session (passed r d) n f.sound f.underway refl in
          kept_then r (passed r d) _ (passed_kept r d)
          (landed_kept (passed r d) f.session (read_below (passed r d) p.0 f.session p.1))

  pub finish_refused : (w : Refusal) → (finish_of r d).check ≡ Err w → (finish_of r d).run ≡ r
  unfolding finish_of
  finish_refused = moved_back (finish_check r d) r next
