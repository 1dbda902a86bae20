-- What trying given counts answers: docs/RULES.md, section 7.
use Rattle.std.specs.Prelude.{ℕ, ◌≡◌, List, [], ◌∷◌, pos, replicate, Ok, Err, Result, Bool, true, false}
use Rattle.show.specs.declared.Show.{Show}
use Rattle.show.specs.declared.refusal.Refusal.{Refusal}
use Rattle.show.specs.Limits.{ShowWithin}
use Rattle.show.specs.Checks.{show_check}
use Rattle.show.specs.Outcomes.{Outcome, granted, refused_by}
use Rattle.theory.specs.Counts.{Load, round_time, Good}
use Rattle.theory.specs.Shows.{load_of}
use Rattle.verdict.specs.Answers.{times_of, set_of}
use Rattle.trial.specs.declared.Trial.{Trial}

abbrev pub trial_of : Result Bool Refusal → ℕ → List ℕ → Trial
trial_of a round times = record { answer = a; round = round; times = times }

-- The times of given counts, whether they hold or not.
abbrev pub timed_as : Result Bool Refusal → Load → (ℕ → ℕ) → Trial
timed_as a l m = trial_of a (round_time l m) (times_of l m)

-- Refused: all else is zero.
abbrev pub untried_for : Refusal → Trial
untried_for w = trial_of (Err w) 0 (replicate 16 0)

-- Within the limits the counts hold exactly if they are a feasible workahead-augmenting set. Outside it is 2, 5, 6 or 7.
pub data TrialIs (s : Show) (m : List ℕ) : Trial → Type 0 where
  holds : ShowWithin s → Good (load_of s) (set_of m) → TrialIs s m (timed_as (Ok true) (load_of s) (set_of m))
  fails : ShowWithin s → (Good (load_of s) (set_of m) → ⊥) → TrialIs s m (timed_as (Ok false) (load_of s) (set_of m))
  untried : (w : Refusal) → show_check s ≡ Err w → TrialIs s m (untried_for w)

-- 1 where the counts hold, 0 where they do not, or the refusal
abbrev pub answer_outcome : Result Bool Refusal → Outcome
answer_outcome (Ok true) = granted (pos 1 ∷ [])
answer_outcome (Ok false) = granted (pos 0 ∷ [])
answer_outcome (Err w) = refused_by w
