-- What choose answers, case by case. Assumes nothing.
use Rattle.std.specs.Prelude.{Ok, Err, None}
use Prim.Native.Nat.{◌≤◌, ◌<◌}
use mathlib.Core.Path.{◌≡◌, sym, ap, ◌∙◌}
use mathlib.Core.Logic.{if_pos, if_neg}
use native.Mathlib.Decide.{dec_lt, ℕ_discrete}
use native.Mathlib.Omega.{arith}
use Rattle.show.specs.Outcomes.{Check}
use Rattle.show.specs.declared.refusal.Refusal.TheVariants as refusal
use Rattle.run.specs.declared.Run.{Run}
use Rattle.run.specs.Run.{playing}
use Rattle.run.specs.Sound.{SoundRun}
use Rattle.run.specs.Answers.{free_check}
use Rattle.run.specs.Steps.{skipped, idled}
use Rattle.run.proofs.Answered.{damaged_first, sound_then}
use Rattle.scheduler.specs.declared.Choice.TheVariants as choice
use Rattle.scheduler.specs.declared.Chosen.{Chosen}
use Rattle.scheduler.specs.Answers.{chosen, arrived_past, next_of, choose_check, chosen_by, choose_of}

module _ (r : Run) where
  by_check : (k : Check) → choose_check r ≡ k → chosen_by k r ≡ choose_of r
  unfolding choose_of
  by_check k e = ap (λ (x : Check). chosen_by x r) (sym e)

  pub choose_damaged : (SoundRun r → ⊥) → chosen (choice.Refused refusal.Damaged) r ≡ choose_of r
  unfolding choose_check
  choose_damaged n = by_check (Err refusal.Damaged) (damaged_first r _ n)

  module _ (s : SoundRun r) where
    module _ (e : r.underway ≡ None) where
      free : next_of r ≡ choose_of r
      unfolding choose_check
      free = by_check (Ok tt) (sound_then r _ s ∙ ap free_check e)

      pub choose_empty : playing r ≡ 0 → chosen choice.Idle r ≡ choose_of r
      unfolding next_of
      choose_empty z = sym (if_pos (ℕ_discrete (playing r) 0) z _ _) ∙ free

      module _ (z : playing r ≡ 0 → ⊥) where
        pub choose_idle : (q : Run) → playing r ≤ skipped r → q ≡ idled r → chosen choice.Idle q ≡ choose_of r
        unfolding next_of
        choose_idle q l f =
            ap (chosen choice.Idle) f
            ∙ sym (if_neg (ℕ_discrete (playing r) 0) z _ _ ∙ if_neg (dec_lt (skipped r) (playing r)) (λ g. let b : ⊥ = omega arith in b) _ _)
            ∙ free

        pub choose_next : (a : Chosen) → skipped r < playing r → a ≡ arrived_past r (skipped r) → a ≡ choose_of r
        unfolding next_of
        choose_next a l f =
            f ∙ sym (if_neg (ℕ_discrete (playing r) 0) z _ _ ∙ if_pos (dec_lt (skipped r) (playing r)) l _ _) ∙ free
