-- `names_each` tells whether an order names each session once: the first places do, and are marked. Assumes nothing.
use Prim.Native.Nat.{◌<◌}
use mathlib.Core.Path.{◌≡◌}
use native.Mathlib.Omega.{arith}
use lib.ListN.{length}
use Rattle.std.proofs.lemmas.List.{get_or-take, length-take}
use borrow.Author.Rules.{rules}
use Rattle.run_test.proofs.Named.{named_none, named_past, named_twice, named_more, named_all}
use Rattle.run_test.proofs.names_each.Goals.{then-playing-session-via-then-playing-session, then-playing-session-via-else-playing-session+then-named-session}
use Rattle.run_test.proofs.names_each.Goals as goal

pub loop-session-init : goal.loop-session-init
loop-session-init c = named_none _ _

pub returns-then-playing-session : goal.returns-then-playing-session
returns-then-playing-session c =
    let l : c.loop-session.session-index < c.args.playing = omega (arith, length-take c.args.playing c.args.order) in
    let e = get_or-take c.args.playing c.args.order c.loop-session.session-index 0 l in
    elim c.then-playing-session.branch [
      | then-playing-session-via-then-playing-session w ↦
          named_past _ _ _ _ c.loop-session.invariant l (rw e at w.if-playing-session.true)
      | then-playing-session-via-else-playing-session+then-named-session w ↦
          named_twice _ _ _ _ c.loop-session.invariant l (rw e at w.if-named-session.true)
    ]

pub loop-session-preserved : goal.loop-session-preserved
loop-session-preserved c =
    let l : c.loop-session.session-index < c.args.playing = omega (arith, length-take c.args.playing c.args.order) in
    let e = get_or-take c.args.playing c.args.order c.loop-session.session-index 0 l in
    rw e (named_more _ _ _ _ c.loop-session.invariant l c.requires (rw e at c.if-playing-session.false) (rw e at c.if-named-session.false))

pub returns : goal.returns
returns c =
    let n : length c.args.order ≡ 16 = search rules in
    named_all _ _ _ _ c.loop-session.invariant (omega (arith, length-take c.args.playing c.args.order))
