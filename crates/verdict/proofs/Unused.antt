-- Nothing looks at unused places: shows that agree below their counts are answered alike. Assumes nothing.
use Rattle.std.specs.Prelude.{Ok}
use Prim.Native.Nat.{ℕ, ◌<◌}
use mathlib.Core.Path.{◌≡◌, sym, ◌∙◌, ap, subst}
use Rattle.show.specs.declared.Drive.{Drive}
use Rattle.show.specs.declared.Show.{Show}
use Rattle.show.specs.Limits.{ShowWithin, Alike}
use Rattle.show.specs.Lists.{listed, padded}
use Rattle.show.proofs.Lists.{listed_same}
use Rattle.show.proofs.Shows.{check_within, within_check, alike_check}
use Rattle.cost.specs.declared.Cost.{Cost}
use Rattle.cost.specs.Bound.{worst_time}
use Rattle.cost.specs.Costs.{cost_of}
use Rattle.cost.proofs.Costs.{alike_cost}
use Rattle.theory.specs.Sum.{sum_to}
use Rattle.theory.specs.Counts.{round_time}
use Rattle.theory.specs.Shows.{load_of}
use Rattle.theory.proofs.Sum.{sum_same}
use Rattle.theory.proofs.Shows.{alike_back, alike_good, alike_smallest}
use Rattle.verdict.specs.declared.Decision.{Decision}
use Rattle.verdict.specs.Answers.{DecisionIs, accepted, no_set, outside, row, times_of, accepted_with}

module _ (s t : Show) (a : Alike s t) (w : ShowWithin s) where
  pub within_alike : ShowWithin t
  within_alike = check_within t (sym (alike_check s t a) ∙ within_check s w)

  time_alike : (i : ℕ) → i < s.playing → (n : ℕ) → ((load_of s).stream i).time n ≡ ((load_of t).stream i).time n
  time_alike i l n =
      ap (λ (c : Cost). worst_time s.drive.cylinder c n) (alike_cost s t a w i l)
      ∙ ap (λ (d : Drive). worst_time d.cylinder (cost_of t i) n) a.drive

  module _ (m : ℕ → ℕ) where
    pub round_alike : round_time (load_of s) m ≡ round_time (load_of t) m
    round_alike =
        sum_same _ _ s.playing (λ i l. time_alike i l (m i)) ∙ ap (sum_to (λ i. ((load_of t).stream i).time (m i))) a.playing

    counts_alike : row (load_of s) m ≡ row (load_of t) m
    counts_alike = ap (λ (n : ℕ). padded 16 0 (listed m n)) a.playing

    pub times_alike : times_of (load_of s) m ≡ times_of (load_of t) m
    times_alike =
        ap (padded 16 0) (listed_same _ _ s.playing (λ i l. time_alike i l (m i)))
        ∙ ap (λ (n : ℕ). padded 16 0 (listed (λ i. ((load_of t).stream i).time (m i)) n)) a.playing

    accepted_alike : accepted_with (load_of s) m ≡ accepted_with (load_of t) m
    accepted_alike = λ i. record { verdict = Ok tt; round = round_alike i; counts = counts_alike i; times = times_alike i }

pub alike_decision : (s t : Show) → Alike s t → (d : Decision) → DecisionIs s d → DecisionIs t d
alike_decision s t a d (accepted m w h) =
    let v = within_alike s t a w in
    subst (DecisionIs t) (sym (accepted_alike s t a w m)) (accepted m v (alike_smallest t s (alike_back s t a) v w m h))
alike_decision s t a d (no_set w none) =
    no_set (within_alike s t a w) (λ g. none (g.0, alike_good s t a w g.0 g.1))
alike_decision s t a d (outside w out) = outside w (sym (alike_check s t a) ∙ out)
