-- Opening: two answers to one show are one, and an accepted show has few sessions. Assumes nothing.
use Rattle.std.specs.Prelude.{Ok}
use Prim.Native.Nat.{◌≤◌}
use mathlib.Core.Path.{◌≡◌, sym, ◌∙◌, ap}
use Rattle.show.specs.declared.Show.{Show}
use Rattle.verdict.specs.declared.Decision.{Decision}
use Rattle.verdict.specs.Answers.{DecisionIs}
use Rattle.verdict.proofs.Once.{decision_once}
use Rattle.verdict.proofs.Decisions.{accepted_set}
use Rattle.run.specs.declared.Opened.{Opened}
use Rattle.run.specs.Opening.{OpenIs, opened_by}

-- Two answers to one show are equal.
pub open_once : (s : Show) (a b : Opened) → OpenIs s a → OpenIs s b → a ≡ b
open_once s a b p q =
    p.answers
    ∙ ap (λ (d : Decision). opened_by s d.counts d.verdict) (decision_once s p.decision q.decision p.decides q.decides)
    ∙ sym q.answers

module _ (s : Show) (d : Decision) (h : DecisionIs s d) where
  pub open_few : d.verdict ≡ Ok tt → s.playing ≤ 16
  open_few e = (accepted_set s d h e).within.counts.sessions
