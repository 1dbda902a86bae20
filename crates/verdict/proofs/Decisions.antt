-- What a decision tells, case by case. Assumes nothing.
use Rattle.std.specs.Prelude.{Ok, Err}
use Prim.Native.Nat.{ℕ}
use mathlib.Core.Path.{◌≡◌, refl}
use mathlib.Core.Logic.{◌↔◌}
use native.Mathlib.Omega.{arith}
use Rattle.show.specs.Outcomes.{Check}
use Rattle.show.specs.declared.Show.{Show}
use Rattle.show.specs.declared.refusal.Refusal.{Refusal}
use Rattle.show.specs.Limits.{ShowWithin}
use Rattle.theory.specs.Counts.{Accepted, Smallest}
use Rattle.theory.specs.Shows.{load_of}
use Rattle.verdict.specs.declared.Decision.{Decision}
use Rattle.verdict.specs.Answers.{DecisionIs, accepted, no_set, outside, accepted_with}
use Rattle.verdict.proofs.Once.{within_outside}

pub accepted_refused : {X : Type 0} {w : Refusal} → ◌≡◌ {A = Check} (Err w) (Ok tt) → X
accepted_refused e = let z : ◌≡◌ {A = ℕ} 0 1 = cc in absurd (let f : ⊥ = omega arith in f)

-- What an accepted decision holds.
pub record AcceptedSet (s : Show) (d : Decision) : Type 0 where
  pub set : ℕ → ℕ
  pub within : ShowWithin s
  pub smallest : Smallest (load_of s) set
  pub answer : d ≡ accepted_with (load_of s) set

pub accepted_set : (s : Show) (d : Decision) → DecisionIs s d → d.verdict ≡ Ok tt → AcceptedSet s d
accepted_set s d (accepted m w h) e = record { set = m; within = w; smallest = h; answer = refl }
accepted_set s d (no_set w none) e = accepted_refused e
accepted_set s d (outside w out) e = accepted_refused e

-- Within the limits: accepted exactly if a feasible workahead-augmenting set exists.
pub accepted_if : (s : Show) (d : Decision) → DecisionIs s d → ShowWithin s → Accepted (load_of s) → d.verdict ≡ Ok tt
accepted_if s d (accepted m w h) v a = refl
accepted_if s d (no_set w none) v a = absurd (none a)
accepted_if s d (outside w out) v a = within_outside s w v out

pub accepted_exactly : (s : Show) (d : Decision) → DecisionIs s d → (d.verdict ≡ Ok tt) ↔ (ShowWithin s × Accepted (load_of s))
accepted_exactly s d h =
    (λ e. (let a = accepted_set s d h e in (a.within, (a.set, a.smallest.good))), λ p. accepted_if s d h p.0 p.1)
