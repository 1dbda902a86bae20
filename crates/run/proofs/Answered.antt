-- What a call answers by its check. Assumes nothing.
use Rattle.std.specs.Prelude.{Ok, Err, Some, None, Option, ℕ}
use mathlib.Core.Path.{◌≡◌, refl, sym, ap, ◌∙◌}
use Rattle.show.specs.Outcomes.{Check}
use Rattle.show.specs.declared.refusal.Refusal.{Refusal}
use Rattle.show.specs.declared.refusal.Refusal.TheVariants.{Damaged}
use Rattle.show.specs.Checks.{first}
use Rattle.show.proofs.Checks.{within_refused, unless_kept, unless_broken, first_refused, first_within}
use Rattle.run.specs.declared.Run.{Run}
use Rattle.run.specs.declared.Moved.{Moved}
use Rattle.run.specs.Sound.{SoundRun}
use Rattle.run.specs.Decisions.{sound?, sound_check}
use Rattle.run.specs.Answers.{moved, free_check}

abbrev pub granted : Run → Moved
granted q = record { check = Ok tt; run = q }

abbrev pub refused : Run → Refusal → Moved
refused r w = record { check = Err w; run = r }

module _ (k : Check) (r next : Run) where
  pub moved_refused : (w : Refusal) → k ≡ Err w → refused r w ≡ moved k r next
  moved_refused w e = ap (λ (x : Check). moved x r next) (sym e)

  pub moved_granted : (q : Run) → k ≡ Ok tt → q ≡ next → granted q ≡ moved k r next
  moved_granted q e f = ap granted f ∙ ap (λ (x : Check). moved x r next) (sym e)

  pub moved_check : (moved k r next).check ≡ k
  moved_check = from k
    where
      from : (j : Check) → (moved j r next).check ≡ j
      from (Ok tt) = refl
      from (Err w) = refl

  -- what holds of the run given, and of the next where the call is granted
  pub moved_either : (P : Run → Type 0) → P r → (k ≡ Ok tt → P next) → P (moved k r next).run
  moved_either P h f = from k refl
    where
      from : (j : Check) → k ≡ j → P (moved j r next).run
      from (Ok tt) e = f e
      from (Err w) e = h

  pub moved_back : (w : Refusal) → (moved k r next).check ≡ Err w → (moved k r next).run ≡ r
  moved_back w e = from k e
    where
      from : (j : Check) → (moved j r next).check ≡ Err w → (moved j r next).run ≡ r
      from (Ok tt) f = within_refused f
      from (Err v) f = refl

-- ---- 19 comes first

module _ (r : Run) (c : Check) where
  pub damaged_first : (SoundRun r → ⊥) → first (sound_check r) c ≡ Err Damaged
  damaged_first n = first_refused _ c (unless_broken (sound? r) Damaged n)

  pub sound_then : SoundRun r → first (sound_check r) c ≡ c
  sound_then s = first_within _ c (unless_kept (sound? r) Damaged s)

-- Nothing is under way where 13 is not given.
pub free_nothing : (u : (Option ℕ)) → free_check u ≡ Ok tt → u ≡ None
free_nothing None e = refl
free_nothing (Some i) e = within_refused (sym e)
