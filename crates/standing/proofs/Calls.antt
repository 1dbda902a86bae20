-- What each call answers, case by case. Assumes nothing.
use Rattle.std.specs.Prelude.{Ok, Err}
use Prim.Native.Nat.{ℕ, ◌<◌}
use mathlib.Core.Path.{◌≡◌, refl, sym, ap, ◌∙◌}
use native.Mathlib.Decide.{dec_lt}
use native.Mathlib.Omega.{arith}
use lib.IntN.{ℤ}
use Rattle.show.specs.Outcomes.{Check}
use Rattle.show.specs.declared.refusal.Refusal.{Refusal}
use Rattle.show.specs.declared.refusal.Refusal.TheVariants as refusal
use Rattle.show.proofs.Checks.{within_refused, unless_kept, unless_broken, unless_within, first_refused, first_within}
use Rattle.run.specs.declared.Run.{Run}
use Rattle.run.specs.Run.{playing, state_at, clip_at}
use Rattle.run.specs.Sound.{SoundRun}
use Rattle.run.specs.Decisions.{sound?, sound_check}
use Rattle.workahead.proofs.Calls.{timed_refused, timed_granted, time_refused, ahead_time}
use Rattle.standing.specs.declared.Standing.{Standing}
use Rattle.standing.specs.declared.Stood.{Stood}
use Rattle.standing.specs.Times.{ahead_at, slack_time}
use Rattle.standing.specs.Standing.{no_standing, standing_of, Fit, standing_slack}
use Rattle.standing.specs.Decisions.{fit?}
use Rattle.workahead.specs.Answers.{ahead_for}
use Rattle.standing.specs.Answers.{stood_by, stood_of, fit_check, someone_check, slack_for}
use Rattle.standing.proofs.Countings.{counting}
use Rattle.standing.proofs.Standings.{standing_fit, slack_in_is}

-- ---- a standing

module _ (r : Run) where
  by : (k : Check) (t : Stood) → stood_of r ≡ t → sound_check r ≡ k → stood_by k (standing_of r) ≡ t
  unfolding stood_of
  by k t e f = ap (λ (x : Check). stood_by x (standing_of r)) (sym f) ∙ e

  pub stand_damaged : (SoundRun r → ⊥) → record { check = Err refusal.Damaged; standing = no_standing } ≡ stood_of r
  stand_damaged n = by (Err refusal.Damaged) _ refl (unless_broken (sound? r) refusal.Damaged n)

  pub stand_stands : (s : Standing) → SoundRun r → s ≡ standing_of r → record { check = Ok tt; standing = s } ≡ stood_of r
  stand_stands s h e =
      ap (stood_by (Ok tt)) e ∙ by (Ok tt) _ refl (unless_kept (sound? r) refusal.Damaged h)

-- ---- slack

module _ (s : Standing) where
  pub slack_unfit : (Fit s → ⊥) → Err refusal.Damaged ≡ slack_for s
  unfolding slack_for
  slack_unfit n = timed_refused _ _ refusal.Damaged (first_refused _ (someone_check s) (unless_broken (fit? s) refusal.Damaged n))

  module _ (f : Fit s) where
    fit : fit_check s ≡ Ok tt
    fit = unless_kept (fit? s) refusal.Damaged f

    pub slack_nobody : s.playing ≡ 0 → Err refusal.NoSession ≡ slack_for s
    unfolding slack_for
    slack_nobody e =
        timed_refused _ _ refusal.NoSession
        (first_within (fit_check s) _ fit
        ∙ unless_broken (dec_lt 0 s.playing) refusal.NoSession (λ l. let f : ⊥ = omega arith in f))

    pub slack_least : (z : ℤ) → 0 < s.playing → z ≡ standing_slack s → Ok z ≡ slack_for s
    unfolding slack_for
    slack_least z l e =
        timed_granted _ _ z (first_within (fit_check s) _ fit ∙ unless_kept (dec_lt 0 s.playing) refusal.NoSession l) e

-- ---- of a run: what stood is sound, and its standing has the run's slack

pub stood_sound : (r : Run) (t : Stood) → t ≡ stood_of r → t.check ≡ Ok tt → SoundRun r
unfolding stood_of
stood_sound r t e h = from (sound_check r) refl (sym (ap (λ (x : Stood). x.check) e) ∙ h)
  where
    from : (k : Check) → sound_check r ≡ k → (stood_by k (standing_of r)).check ≡ Ok tt → SoundRun r
    from (Ok tt) f g = unless_within (sound? r) refusal.Damaged f
    from (Err w) f g = within_refused (sym g)

pub stood_damaged : (r : Run) (t : Stood) {w : Refusal} → t ≡ stood_of r → t.check ≡ Err w → SoundRun r → ⊥
stood_damaged r t e h s =
    within_refused (ap (λ (x : Stood). x.check) (stand_stands r (standing_of r) s refl ∙ sym e) ∙ h)

module _ (r : Run) (s : SoundRun r) where
  pub stood_standing : (t : Stood) → t ≡ stood_of r → t.standing ≡ standing_of r
  stood_standing t e = ap (λ (x : Stood). x.standing) (e ∙ sym (stand_stands r (standing_of r) s refl))

  pub run_nobody : playing r ≡ 0 → Err refusal.NoSession ≡ slack_for (standing_of r)
  run_nobody e = slack_nobody (standing_of r) (standing_fit r s _ refl) e

  pub run_slack : 0 < playing r → Ok (slack_time r) ≡ slack_for (standing_of r)
  run_slack l = slack_least (standing_of r) (standing_fit r s _ refl) (slack_time r) l (sym (slack_in_is r l))

  pub run_refused : {w : Refusal} → slack_for (standing_of r) ≡ Err w → playing r ≡ 0
  run_refused e =
      elim (dec_lt 0 (playing r)) [
        | yes l ↦ absurd (time_refused (run_slack l ∙ e))
        | no n ↦ omega arith
      ]

  pub run_told : (z : ℤ) → slack_for (standing_of r) ≡ Ok z → (0 < playing r) × (z ≡ slack_time r)
  run_told z e =
      elim (dec_lt 0 (playing r)) [
        | yes l ↦ (l, (let f : Ok z ≡ Ok (slack_time r) = sym (run_slack l ∙ e) in cc))
        | no n ↦ absurd (time_refused (sym (run_nobody (omega arith) ∙ e)))
      ]

  -- and the workahead of each session is told
  pub run_ahead : (i : ℕ) → i < playing r → Ok (ahead_at r i) ≡ ahead_for (clip_at r i) (state_at r i)
  run_ahead i l = let k = counting r s i l in ahead_time (clip_at r i) (state_at r i) k.rate (ahead_at r i) (k.put, k.clock) refl
