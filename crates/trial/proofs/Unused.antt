-- Nothing looks at unused places: shows that agree below their counts are answered alike. Assumes nothing.
use Rattle.std.specs.Prelude.{Result, Bool}
use Prim.Native.Nat.{ℕ}
use mathlib.Core.Path.{◌≡◌, sym, ◌∙◌, subst}
use mathlib.Core.List.{List}
use Rattle.show.specs.declared.refusal.Refusal.{Refusal}
use Rattle.show.specs.declared.Show.{Show}
use Rattle.show.specs.Limits.{ShowWithin, Alike}
use Rattle.show.proofs.Shows.{alike_check}
use Rattle.theory.specs.Shows.{load_of}
use Rattle.theory.proofs.Shows.{alike_back, alike_good}
use Rattle.verdict.proofs.Unused.{within_alike, round_alike, times_alike}
use Rattle.trial.specs.declared.Trial.{Trial}
use Rattle.trial.specs.Answers.{TrialIs, holds, fails, untried, timed_as}

module _ (s t : Show) (a : Alike s t) (w : ShowWithin s) (m : ℕ → ℕ) where
  timed_alike : (x : (Result Bool Refusal)) → timed_as x (load_of s) m ≡ timed_as x (load_of t) m
  timed_alike x = λ i. record { answer = x; round = round_alike s t a w m i; times = times_alike s t a w m i }

pub alike_trial : (s t : Show) → Alike s t → (m : List ℕ) (r : Trial) → TrialIs s m r → TrialIs t m r
alike_trial s t a m r (holds w h) =
    let v = within_alike s t a w in
    subst (TrialIs t m) (sym (timed_alike s t a w _ _)) (holds v (alike_good t s (alike_back s t a) v _ h))
alike_trial s t a m r (fails w h) =
    subst (TrialIs t m) (sym (timed_alike s t a w _ _)) (fails (within_alike s t a w) (λ g. h (alike_good s t a w _ g)))
alike_trial s t a m r (untried w out) = untried w (sym (alike_check s t a) ∙ out)
