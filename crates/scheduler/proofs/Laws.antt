-- Choose, whatever it answers: a sound run stays sound, refused it is the run that was given, and Idle is for when nobody has room.
-- Assumes nothing.
use Rattle.std.specs.Prelude.{Ok, Err, None}
use Prim.Native.Nat.{ℕ, ◌≤◌, ◌<◌}
use mathlib.Core.Path.{◌≡◌, refl, sym}
use native.Mathlib.Decide.{dec_lt, ℕ_discrete}
use native.Mathlib.Omega.{arith}
use Rattle.show.specs.Outcomes.{Check}
use Rattle.show.specs.declared.refusal.Refusal.{Refusal}
use Rattle.show.specs.declared.refusal.Refusal.TheVariants.{PutLimit}
use Rattle.show.proofs.Checks.{first_right}
use Rattle.run.specs.declared.Run.{Run}
use Rattle.run.specs.Run.{playing, seat_at, onward, PutAt}
use Rattle.run.specs.Sound.{SoundRun}
use Rattle.run.specs.Decisions.{put?, sound_check}
use Rattle.run.specs.Answers.{free_check}
use Rattle.run.specs.Steps.{skipped, idled, left_past, begun}
use Rattle.run.specs.Laws.{Kept, Ahead}
use Rattle.run.proofs.Searches.{skipped_room}
use Rattle.run.proofs.Steps.{ite_either, onward_below, idled_sound, begun_sound, past_within}
use Rattle.run.proofs.Answered.{free_nothing}
use Rattle.run.proofs.Full.{idle_full}
use Rattle.run.proofs.Rest.{same_kept, idled_kept, begun_kept}
use Rattle.scheduler.specs.declared.Choice.TheVariants as choice
use Rattle.scheduler.specs.declared.Chosen.{Chosen}
use Rattle.scheduler.specs.Answers.{chosen, arrived, arrived_past, next_of, choose_check, chosen_by, choose_of}

-- What choose can answer, and what each answer rests on.
data Answered (r : Run) : Chosen → Type 0 where
  refused : (w : Refusal) → Answered r (chosen (choice.Refused w) r)
  empty : playing r ≡ 0 → Answered r (chosen choice.Idle r)
  idle : 0 < playing r → playing r ≤ skipped r → Answered r (chosen choice.Idle (idled r))
  read :
      skipped r < playing r → PutAt r (seat_at r (onward r (skipped r))) →
      Answered r (chosen (choice.Read (seat_at r (onward r (skipped r)))) (begun r (onward r (skipped r)) (left_past r (skipped r))))

module _ (r : Run) where
  arrives : skipped r < playing r → Answered r (arrived_past r (skipped r))
  unfolding arrived
  arrives l =
      ite_either (Answered r) (put? r (seat_at r (onward r (skipped r)))) _ _ (λ p. read l p) (λ n. refused PutLimit)

  next : Answered r (next_of r)
  unfolding next_of
  next =
      ite_either (Answered r) (ℕ_discrete (playing r) 0) _ _ (λ e. empty e)
      (λ n.
      ite_either (Answered r) (dec_lt (skipped r) (playing r)) _ _ (λ l. arrives l) (λ l. idle (omega arith) (omega arith)))

  answered : Answered r (choose_of r)
  unfolding choose_of
  answered = from (choose_check r)
    where
      from : (k : Check) → Answered r (chosen_by k r)
      from (Ok tt) = next
      from (Err w) = refused w

-- ---- the laws

choice_sound : (r : Run) → SoundRun r → (c : Chosen) → Answered r c → SoundRun c.run
choice_sound r s c (refused w) = s
choice_sound r s c (empty e) = s
choice_sound r s c (idle l g) = idled_sound r s l
choice_sound r s c (read l p) =
    let some : 0 < playing r = omega arith in
    begun_sound r _ _ s (onward_below r (skipped r) some) (past_within r (skipped r) s some) (skipped_room r l) p

pub choose_sound : (r : Run) → SoundRun r → SoundRun (choose_of r).run
choose_sound r s = choice_sound r s (choose_of r) (answered r)

choice_kept : (r : Run) (c : Chosen) → Answered r c → Kept r c.run
choice_kept r c (refused w) = same_kept r
choice_kept r c (empty e) = same_kept r
choice_kept r c (idle l g) = idled_kept r
choice_kept r c (read l p) = begun_kept r _ _

pub choose_kept : (r : Run) → Kept r (choose_of r).run
choose_kept r = choice_kept r (choose_of r) (answered r)

idle_refused : {X : Type 0} {w : Refusal} → choice.Idle ≡ choice.Refused w → X
idle_refused e = let z : ◌≡◌ {A = ℕ} 0 1 = cc in absurd (let f : ⊥ = omega arith in f)

read_refused : {X : Type 0} {i : ℕ} {w : Refusal} → choice.Read i ≡ choice.Refused w → X
read_refused e = let z : ◌≡◌ {A = ℕ} 0 1 = cc in absurd (let f : ⊥ = omega arith in f)

read_idle : {X : Type 0} {i : ℕ} → choice.Read i ≡ choice.Idle → X
read_idle e = let z : ◌≡◌ {A = ℕ} 0 1 = cc in absurd (let f : ⊥ = omega arith in f)

choice_refused : (r : Run) (c : Chosen) → Answered r c → (w : Refusal) → c.choice ≡ choice.Refused w → c.run ≡ r
choice_refused r c (refused v) w e = refl
choice_refused r c (empty z) w e = refl
choice_refused r c (idle l g) w e = idle_refused e
choice_refused r c (read l p) w e = read_refused e

pub choose_refused : (r : Run) (w : Refusal) → (choose_of r).choice ≡ choice.Refused w → (choose_of r).run ≡ r
choose_refused r w e = choice_refused r (choose_of r) (answered r) w e

choice_ahead : (r : Run) → SoundRun r → (c : Chosen) → Answered r c → c.choice ≡ choice.Idle → (i : ℕ) → i < playing r → Ahead r i
choice_ahead r s c (refused w) e i l = idle_refused (sym e)
choice_ahead r s c (empty z) e i l = absurd (let f : ⊥ = omega arith in f)
choice_ahead r s c (idle m g) e i l = idle_full r s g i l
choice_ahead r s c (read m p) e i l = read_idle e

-- Loaded until Idle, every session is more than a round ahead.
pub choose_ahead : (r : Run) → SoundRun r → (choose_of r).choice ≡ choice.Idle → (i : ℕ) → i < playing r → Ahead r i
choose_ahead r s e i l = choice_ahead r s (choose_of r) (answered r) e i l

-- ---- after Idle

idle_next : (r : Run) (c : Chosen) → Answered r c → c.choice ≡ choice.Idle → 0 < playing r → c.run ≡ idled r
idle_next r c (refused w) e l = idle_refused (sym e)
idle_next r c (empty z) e l = absurd (let f : ⊥ = omega arith in f)
idle_next r c (idle h g) e l = refl
idle_next r c (read h p) e l = read_idle e

-- Nobody had room: the place has its whole count left again.
pub idle_run : (r : Run) → (choose_of r).choice ≡ choice.Idle → 0 < playing r → (choose_of r).run ≡ idled r
idle_run r e l = idle_next r (choose_of r) (answered r) e l

-- Nothing was under way.
pub idle_free : (r : Run) → (choose_of r).choice ≡ choice.Idle → r.underway ≡ None
unfolding choose_of choose_check
idle_free r e = free_nothing r.underway (first_right (sound_check r) (free_check r.underway) (from (choose_check r) refl e))
  where
    from : (k : Check) → choose_check r ≡ k → (chosen_by k r).choice ≡ choice.Idle → choose_check r ≡ Ok tt
    from (Ok tt) f g = f
    from (Err w) f g = idle_refused (sym g)
