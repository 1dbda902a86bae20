-- Two answers that meet one statement are equal. Assumes nothing.
use mathlib.Core.Path.{◌≡◌, refl, ap}
use Prim.Native.Nat.{ℕ}
use mathlib.Core.List.{List}
use Rattle.show.specs.declared.Show.{Show}
use Rattle.verdict.proofs.Once.{within_outside, outside_once}
use Rattle.trial.specs.declared.Trial.{Trial}
use Rattle.trial.specs.Answers.{TrialIs, holds, fails, untried, untried_for}

pub trial_once : (s : Show) (m : List ℕ) (a b : Trial) → TrialIs s m a → TrialIs s m b → a ≡ b
trial_once s m a b (holds w h) (holds v g) = refl
trial_once s m a b (holds w h) (fails v g) = absurd (g h)
trial_once s m a b (holds w h) (untried v out) = within_outside s v w out
trial_once s m a b (fails w h) (holds v g) = absurd (h g)
trial_once s m a b (fails w h) (fails v g) = refl
trial_once s m a b (fails w h) (untried v out) = within_outside s v w out
trial_once s m a b (untried w out) (holds v g) = within_outside s w v out
trial_once s m a b (untried w out) (fails v g) = within_outside s w v out
trial_once s m a b (untried w out) (untried v from) = ap untried_for (outside_once s w v out from)
