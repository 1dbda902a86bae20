-- `advance` moves each clock on: the first i have gone on. Assumes nothing.
use mathlib.Core.Path.{sym}
use native.Mathlib.Nat.{le_refl}
use native.Mathlib.Omega.{arith}
use Rattle.run.specs.Steps.{ticked_at}
use Rattle.run.proofs.Changed.{changed_none, changed_more, changed_above}
use Rattle.playback.proofs.advance.Goals as goal

pub loop-i-init : goal.loop-i-init
loop-i-init c = sym (changed_none _ _)

pub tick-requires-clause-taken_le_put_most : goal.tick-requires-clause-taken_le_put_most
tick-requires-clause-taken_le_put_most c =
    let s = c.requires.sound.states c.loop-i.i c.loop-i-test.true in
    let t = s.taken in
    let p = s.put in
    rw (c.loop-i.invariant, changed_above (ticked_at c.args.run.now c.args.d) c.loop-i.i c.args.run.now.states c.loop-i.i (le_refl _)) (omega arith, s.clock)

pub loop-i-preserved : goal.loop-i-preserved
loop-i-preserved c =
    rw (c.tick.ensures, c.loop-i.invariant, changed_above (ticked_at c.args.run.now c.args.d) c.loop-i.i c.args.run.now.states c.loop-i.i (le_refl _), changed_more)
