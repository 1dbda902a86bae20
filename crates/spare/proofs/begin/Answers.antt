-- `begin` starts a run that has someone in it and the time. Assumes nothing.
use Prim.Native.Nat.{◌<◌}
use mathlib.Core.Path.{◌≡◌, sym, ap, ◌∙◌}
use Rattle.standing.specs.declared.Standing.{Standing}
use Rattle.standing.specs.Times.{slack_time}
use Rattle.standing.specs.Answers.{slack_for}
use Rattle.show.specs.declared.refusal.Refusal.TheVariants as refusal
use Rattle.run.specs.Run.{playing}
use Rattle.run.proofs.Answered.{refused}
use mir.Syntax.{w64}
use mir.Val.{to_z, of_z}
use borrow.Author.Rules.{rules}
use Rattle.order.proofs.Orders.{test_less, test_not}
use Rattle.standing.proofs.Calls.{run_told, run_refused}
use Rattle.spare.proofs.Calls.{begin_empty, begin_some, begin_negative, begin_granted}
use Rattle.spare.proofs.begin.Goals.{In-Ok}
use Rattle.spare.proofs.begin.Goals as goal

-- Someone plays, and the time told is the slack, also as the test reads it.
told : (c : In-Ok) → (0 < playing c.args.run) × (c.in-Ok.spare ≡ slack_time c.args.run)
told c = run_told _ c.requires.0 _ (ap slack_for (sym c.requires.1) ∙ sym c.slack_in.ensures ∙ c.in-Ok.is)

read : (c : In-Ok) → to_z w64 (of_z w64 c.in-Ok.spare) ≡ slack_time c.args.run
read c = let fits : to_z w64 (of_z w64 c.in-Ok.spare) ≡ c.in-Ok.spare = search rules in fits ∙ (told c).1

pub returns-in_default : goal.returns-in_default
returns-in_default c =
    let e : c.refused.result ≡ refused c.args.run refusal.NoSession = search rules in
    e ∙ begin_empty _ (run_refused _ c.requires.0 (ap slack_for (sym c.requires.1) ∙ sym c.slack_in.ensures ∙ c.in_default.is))

pub returns-then-spare-lt0 : goal.returns-then-spare-lt0
returns-then-spare-lt0 c =
    let p = (goal.at.returns-then-spare-lt0 c).In-Ok in
    let e : c.refused-then-spare-lt0.result ≡ refused c.args.run refusal.NegativeSlack = search rules in
    e ∙ begin_negative c.args.run (test_less (rw (read p) at c.if-spare-lt0.true)) ∙ begin_some c.args.run (told p).0

pub cycling-requires-clause-run_nonzero : goal.cycling-requires-clause-run_nonzero
cycling-requires-clause-run_nonzero c =
    ((told (goal.at.cycling-requires-clause-run_nonzero c).In-Ok).0, ap (λ (t : Standing). t.places) c.requires.1)

pub returns : goal.returns
returns c =
    let p = (goal.at.returns c).In-Ok in
    let least = test_not (rw (read p) at c.if-spare-lt0.false) in
    begin_granted c.args.run _ least c.cycling.ensures ∙ begin_some c.args.run (told p).0
