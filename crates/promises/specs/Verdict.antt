-- Demand 2, the verdict: accepted exactly if a feasible workahead-augmenting set exists; the counts are the smallest for every session
-- at once. docs/RULES.md, section 7. proofs/Verdict.antt proves it.
use Rattle.std.specs.Prelude.{ℕ, ◌≤◌, ◌<◌, ◌≡◌, List, ◌↔◌, Ok}
use Rattle.show.specs.declared.Show.{Show}
use Rattle.show.specs.Limits.{ShowWithin, Alike}
use Rattle.theory.specs.Counts.{round_time, Good, Accepted}
use Rattle.theory.specs.Shows.{load_of}
use Rattle.verdict.specs.declared.Decision.{Decision}
use Rattle.trial.specs.declared.Trial.{Trial}
use Rattle.verdict.specs.Answers.{DecisionIs, set_of}
use Rattle.trial.specs.Answers.{TrialIs}

-- What an accepted show is told.
pub record SmallestSet (s : Show) (d : Decision) : Type 0 where
  -- a feasible workahead-augmenting set ..
  pub good : Good (load_of s) (set_of d.counts)
  -- .. that is at most any other such set's for every session
  pub least : (o : ℕ → ℕ) → Good (load_of s) o → (i : ℕ) → i < s.playing → set_of d.counts i ≤ o i
  -- each U(M), and L
  pub times : (i : ℕ) → i < s.playing → set_of d.times i ≡ ((load_of s).stream i).time (set_of d.counts i)
  pub round : d.round ≡ round_time (load_of s) (set_of d.counts)

pub record Verdicts : Type 0 where
  pub accepted_exactly :
      (s : Show) (d : Decision) → DecisionIs s d → (d.verdict ≡ Ok tt) ↔ (ShowWithin s × Accepted (load_of s))
  pub told : (s : Show) (d : Decision) → DecisionIs s d → d.verdict ≡ Ok tt → SmallestSet s d
  -- nothing looks at unused places
  pub unused : (s t : Show) → Alike s t → (d : Decision) → DecisionIs s d → DecisionIs t d
  pub unused_tried : (s t : Show) → Alike s t → (m : List ℕ) (r : Trial) → TrialIs s m r → TrialIs t m r
