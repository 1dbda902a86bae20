-- The test of a run record, part by part. Assumes nothing.
use Rattle.std.specs.Prelude.{Ok, Err, Result}
use Rattle.std.specs.Result.{result_unwrap_or}
use Prim.Native.Nat.{ℕ, ◌+◌, ◌≤◌, ◌<◌}
use mathlib.Core.Path.{◌≡◌, refl, sym, ap, ◌∙◌}
use mathlib.Core.Bool.{Bool, true, false}
use mathlib.Core.List.{List}
use mathlib.Core.Logic.{if_pos, if_neg}
use native.Mathlib.Omega.{arith}
use borrow.Author.Count.{below_more}
use Rattle.show.specs.declared.Show.{Show}
use Rattle.show.specs.declared.refusal.Refusal.{Refusal}
use Rattle.show.specs.Limits.{ShowWithin}
use Rattle.theory.specs.Counts.{Good}
use Rattle.theory.specs.Shows.{load_of}
use Rattle.trial.specs.declared.Trial.{Trial}
use Rattle.verdict.specs.Answers.{set_of}
use Rattle.trial.specs.Answers.{TrialIs, holds, fails, untried}
use Rattle.verdict.proofs.Once.{within_outside}
use Rattle.state.specs.State.{StateSound}
use Rattle.run.specs.declared.Run.{Run}
use Rattle.run.specs.Run.{playing, clip_at, state_at}
use Rattle.run.specs.Sound.{StatesSound, SoundRun}
use Rattle.run.specs.Decisions.{sound?}
use Rattle.run_test.specs.declared.Test.{Test}
use Rattle.run_test.specs.declared.Test.TheVariants as test
use Rattle.run_test.specs.Answers.{test_of}

-- ---- the counts

-- by what an answer comes to where a refusal is no
pub holds_told : (a : Result Bool Refusal) → result_unwrap_or a false ≡ true → a ≡ Ok true
holds_told (Ok true) e = refl
holds_told (Ok false) e = cc
holds_told (Err w) e = cc

pub fails_told : (a : Result Bool Refusal) → result_unwrap_or a false ≡ false → a ≡ Ok true → ⊥
fails_told a e h = cc (ap (λ (x : Result Bool Refusal). result_unwrap_or x false) h)

module _ (s : Show) (m : List ℕ) where
  pub trial_good : (t : Trial) → TrialIs s m t → t.answer ≡ Ok true → ShowWithin s × Good (load_of s) (set_of m)
  trial_good t (holds w g) e = (w, g)
  trial_good t (fails w n) e = cc
  trial_good t (untried w out) e = cc

  pub trial_bad : (t : Trial) → TrialIs s m t → (t.answer ≡ Ok true → ⊥) → ShowWithin s → Good (load_of s) (set_of m) → ⊥
  trial_bad t (holds w g) n v k = n refl
  trial_bad t (fails w b) n v k = b k
  trial_bad t (untried w out) n v k = within_outside s w v out

-- ---- the states

pub record StatesTo (r : Run) (i : ℕ) : Type 0 where
  pub inside : i ≤ playing r
  pub sound : (k : ℕ) → k < i → StateSound r.started (clip_at r k) (state_at r k)

module _ (r : Run) where
  pub states_none : StatesTo r 0
  states_none = record { inside = omega arith; sound = λ k l. absurd (let f : ⊥ = omega arith in f) }

  pub states_more : (i : ℕ) → StatesTo r i → i < playing r → StateSound r.started (clip_at r i) (state_at r i) → StatesTo r (i + 1)
  states_more i h l g = record { inside = omega arith; sound = below_more _ i h.sound g }

  pub states_all : (i : ℕ) → StatesTo r i → playing r ≤ i → StatesSound r
  states_all i h l k m = h.sound k (omega arith)

-- ---- the answer

module _ (r : Run) where
  pub test_sound : SoundRun r → test.Sound ≡ test_of r
  test_sound s = sym (if_pos (sound? r) s test.Sound test.Damaged)

  pub test_damaged : (SoundRun r → ⊥) → test.Damaged ≡ test_of r
  test_damaged n = sym (if_neg (sound? r) n test.Sound test.Damaged)

sound_damaged : {X : Type 0} → test.Sound ≡ test.Damaged → X
sound_damaged e = absurd (cc)

-- what a call goes on from
pub tested_sound : (r : Run) (t : Test) → t ≡ test_of r → t ≡ test.Sound → SoundRun r
tested_sound r t e f =
    elim (sound? r) [
      | yes s ↦ s
      | no n ↦ sound_damaged (sym f ∙ e ∙ sym (test_damaged r n))
    ]

pub tested_damaged : (r : Run) (t : Test) → t ≡ test_of r → t ≡ test.Damaged → SoundRun r → ⊥
tested_damaged r t e f s = sound_damaged (test_sound r s ∙ sym e ∙ f)
