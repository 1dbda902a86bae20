-- Two answers that meet one statement are equal. Assumes nothing.
use Rattle.std.specs.Prelude.{Ok, Err}
use Prim.Native.Nat.{ℕ, ◌<◌}
use mathlib.Core.Path.{◌≡◌, refl, sym, ◌∙◌, ap}
use Rattle.show.specs.declared.Show.{Show}
use Rattle.show.specs.declared.refusal.Refusal.{Refusal}
use Rattle.show.specs.Limits.{ShowWithin}
use Rattle.show.specs.Checks.{show_check}
use Rattle.show.specs.Lists.{padded}
use Rattle.show.proofs.Checks.{within_refused}
use Rattle.show.proofs.Lists.{listed_same}
use Rattle.show.proofs.Shows.{within_check}
use Rattle.theory.specs.Counts.{Load}
use Rattle.theory.specs.Shows.{load_of}
use Rattle.theory.proofs.Rounds.{smallest_once, round_same}
use Rattle.verdict.specs.declared.Decision.{Decision}
use Rattle.verdict.specs.Answers.{DecisionIs, accepted, no_set, outside, accepted_with, refused_for}
use Rattle.verdict.proofs.Sets.{times_same}

-- A show within the limits is not refused for them.
pub within_outside : {X : Type 0} (s : Show) (w : Refusal) → ShowWithin s → show_check s ≡ Err w → X
within_outside s w h e = within_refused (sym (within_check s h) ∙ e)

-- One refusal of the limits.
pub outside_once : (s : Show) (v w : Refusal) → show_check s ≡ Err v → show_check s ≡ Err w → v ≡ w
outside_once s v w e f = let g : Err v ≡ Err w = sym e ∙ f in cc

-- Sets that agree at every session are answered alike.
pub accepted_same : (l : Load) (m o : ℕ → ℕ) → ((i : ℕ) → i < l.playing → m i ≡ o i) → accepted_with l m ≡ accepted_with l o
accepted_same l m o h =
    λ i.
    record {
      verdict = Ok tt;
      round = round_same l m o h i;
      counts = ap (padded 16 0) (listed_same m o l.playing h) i;
      times = times_same l m o h i;
    }

pub decision_once : (s : Show) (d e : Decision) → DecisionIs s d → DecisionIs s e → d ≡ e
decision_once s d e (accepted m w h) (accepted o v g) = accepted_same (load_of s) m o (smallest_once (load_of s) m o h g)
decision_once s d e (accepted m w h) (no_set v none) = absurd (none (m, h.good))
decision_once s d e (accepted m w h) (outside v out) = within_outside s v w out
decision_once s d e (no_set w none) (accepted o v g) = absurd (none (o, g.good))
decision_once s d e (no_set w none) (no_set v nor) = refl
decision_once s d e (no_set w none) (outside v out) = within_outside s v w out
decision_once s d e (outside w out) (accepted o v g) = within_outside s w v out
decision_once s d e (outside w out) (no_set v nor) = within_outside s w v out
decision_once s d e (outside w out) (outside v from) = ap refused_for (outside_once s w v out from)
