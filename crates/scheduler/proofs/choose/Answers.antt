-- `choose` answers the next read, or Idle: the first k from the place on have no room. Assumes nothing.
use native.Mathlib.Omega.{arith}
use Rattle.show.proofs.Checks.{tells_yes, tells_no}
use Rattle.run_test.proofs.Tests.{tested_sound}
use Rattle.run.specs.Seats.{Seated}
use Rattle.run.proofs.Seats.{sound_seated, ahead_few}
use Rattle.scheduler.proofs.Cycles.{skips_none, skips_more, skips_found, skips_all, arrives_past}
use Rattle.scheduler.proofs.Calls.{choose_idle, choose_next}
use Rattle.scheduler.proofs.choose.Goals.{In-loop-k}
use Rattle.scheduler.proofs.choose.Goals as goal

-- Past the tests the run is somewhere in its cycle.
seated : (c : In-loop-k) → Seated c.args.run
seated c = sound_seated _ (tested_sound _ _ c.test_run.ensures c.in-Sound.is) (omega arith)

pub loop-k-init : goal.loop-k-init
loop-k-init c = skips_none _

pub bounds-run-seat : goal.bounds-run-seat
bounds-run-seat c = ahead_few _ (seated (goal.at.bounds-run-seat c).In-loop-k) c.loop-k.k

pub bounds-run-seat-in-loop-k : goal.bounds-run-seat-in-loop-k
bounds-run-seat-in-loop-k c = ahead_few _ (seated (goal.at.bounds-run-seat-in-loop-k c).In-loop-k) c.loop-k.k

pub returns-then-room : goal.returns-then-room
returns-then-room c =
    let sound = tested_sound _ _ c.test_run.ensures c.in-Sound.is in
    let e = skips_found _ _ c.loop-k.invariant c.loop-k-test.true (tells_yes _ _ c.if-room.true c.room.ensures) in
    let past = arrives_past _ _ _ _ _ c.left_in.ensures c.left_after-left.ensures c.arrive.ensures e in
    choose_next _ sound c.in-None.is c.if-playing-eq0.false _ (omega arith) past

pub loop-k-preserved : goal.loop-k-preserved
loop-k-preserved c =
    skips_more _ _ c.loop-k.invariant c.loop-k-test.true (tells_no _ _ c.if-room.false c.room.ensures)

pub returns : goal.returns
returns c =
    let sound = tested_sound _ _ c.test_run.ensures c.in-Sound.is in
    let e = skips_all _ _ c.loop-k.invariant c.loop-k-test.false in
    choose_idle _ sound c.in-None.is c.if-playing-eq0.false _ (omega arith) c.idle.ensures
