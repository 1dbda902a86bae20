-- `added` works out the time of each count. Invariant: the times of the first i sessions stand there. Assumes nothing.
use Rattle.std.specs.Prelude.{Ok}
use Prim.Native.Nat.{◌≤◌}
use mathlib.Core.Path.{◌≡◌, ap, ◌∙◌}
use native.Mathlib.Omega.{arith}
use mir.Syntax.{w32}
use mir.Val.{Fits}
use borrow.Author.Rules.{rules}
use Rattle.show.specs.Limits.{layout_at, session_at}
use Rattle.show.proofs.Lists.{filled_none}
use Rattle.cost.specs.declared.Cost.{Cost}
use Rattle.cost.specs.Bound.{worst_time}
use Rattle.cost.specs.Costs.{read_cost}
use Rattle.cost.specs.WorstTimes.{takes_of}
use Rattle.cost.proofs.Costs.{layout_within}
use Rattle.verdict.specs.Answers.{set_of}
use Rattle.verdict.specs.Steps.{time_most}
use Rattle.verdict.proofs.Sets.{times_begun, times_body, takes_told, time_same}
use Rattle.trial.proofs.added.Goals as goal
use Rattle.trial.proofs.added.Goals.{After-unwrap_or-time}

-- the time that a turn adds, and its bound: within the limits it is not refused
told :
    (c : After-unwrap_or-time) →
    let s = c.args.show.now in
    let n = set_of c.args.counts.now c.loop-i.i in
    (c.unwrap_or-time.result ≡ worst_time s.drive.cylinder (read_cost (layout_at s (session_at s c.loop-i.i).layout)) n)
    × (c.unwrap_or-time.result ≤ time_most)
told c =
    let s = c.args.show.now in
    let n = set_of c.args.counts.now c.loop-i.i in
    let few : Fits w32 n = search rules in
    let t = takes_told _ s.drive.cylinder n (layout_within _ c.requires _ c.loop-i-test.true) c.requires.drive.cylinder (omega arith) in
    let known : c.takes.result ≡ Ok (worst_time s.drive.cylinder (read_cost (layout_at s (session_at s c.loop-i.i).layout)) n) =
    c.takes.ensures ∙ ap (λ (x : Cost). takes_of x s.drive.cylinder n) c.of_read.ensures ∙ t.0 in
    let e = rw known at c.unwrap_or-time.ensures in
    (e, rw e t.1)

pub loop-i-init : goal.loop-i-init
loop-i-init c =
    times_begun _ _ _ (filled_none 16 0 _)

pub loop-i-preserved : goal.loop-i-preserved
loop-i-preserved c =
    let e = told (goal.at.loop-i-preserved c).After-unwrap_or-time in
    times_body _ _ _ _ _ _ c.requires c.loop-i.invariant c.loop-i-test.true (e.0 ∙ time_same _ _ _) e.1

pub overflow_add-round : goal.overflow_add-round
overflow_add-round c =
    let b = (told (goal.at.overflow_add-round c).After-unwrap_or-time).1 in omega arith
