-- What deciding a show answers: docs/RULES.md, section 7.
use Rattle.std.specs.Prelude.{ℕ, ◌≡◌, List, [], get_or, replicate, Ok, Err}
use Rattle.show.specs.Outcomes.{Check}
use Rattle.show.specs.declared.Show.{Show}
use Rattle.show.specs.declared.refusal.Refusal.{Refusal}
use Rattle.show.specs.declared.refusal.Refusal.TheVariants.{NoSet}
use Rattle.show.specs.Limits.{ShowWithin}
use Rattle.show.specs.Checks.{show_check}
use Rattle.show.specs.Outcomes.{Outcome, granted, refused_by}
use Rattle.show.specs.Lists.{listed, padded}
use Rattle.theory.specs.Counts.{Load, round_time, Accepted, Smallest}
use Rattle.theory.specs.Shows.{load_of}
use Rattle.verdict.specs.declared.Decision.{Decision}

-- a number for each session, and zeros above
abbrev pub row : Load → (ℕ → ℕ) → List ℕ
row l f = padded 16 0 (listed f l.playing)

-- U(M) of each session
abbrev pub times_of : Load → (ℕ → ℕ) → List ℕ
times_of l m = row l (λ i. (l.stream i).time (m i))

-- Accepted: each session's count, U of it, and L.
abbrev pub accepted_with : Load → (ℕ → ℕ) → Decision
accepted_with l m = record { verdict = Ok tt; round = round_time l m; counts = row l m; times = times_of l m }

-- Refused: all else is zero.
abbrev pub refused_for : Refusal → Decision
refused_for w = record { verdict = Err w; round = 0; counts = replicate 16 0; times = replicate 16 0 }

-- Within the limits a show is accepted exactly if a feasible workahead-augmenting set exists, with the smallest; else it is 8.
-- Outside them it is 2, 5, 6 or 7.
pub data DecisionIs (s : Show) : Decision → Type 0 where
  accepted : (m : ℕ → ℕ) → ShowWithin s → Smallest (load_of s) m → DecisionIs s (accepted_with (load_of s) m)
  no_set : ShowWithin s → (Accepted (load_of s) → ⊥) → DecisionIs s (refused_for NoSet)
  outside : (w : Refusal) → show_check s ≡ Err w → DecisionIs s (refused_for w)

-- given counts as a set
abbrev pub set_of : List ℕ → ℕ → ℕ
set_of m i = get_or m i 0

-- accepted, or the refusal
abbrev pub verdict_outcome : Check → Outcome
verdict_outcome (Ok tt) = granted []
verdict_outcome (Err w) = refused_by w
