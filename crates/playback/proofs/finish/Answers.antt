-- `finish` lets time go by and stores the block. Assumes nothing.
use Prim.Native.Nat.{◌<◌}
use mathlib.Core.Path.{◌≡◌}
use native.Mathlib.Omega.{arith}
use lib.ListN.{length}
use Rattle.show.proofs.Lists.{unmapped}
use Rattle.run_test.proofs.Tests.{tested_sound}
use Rattle.playback.proofs.Calls.{finish_counted, read_few, advanced_put}
use borrow.Author.Rules.{rules}
use Rattle.playback.proofs.finish.Goals.{After-advance-states}
use Rattle.playback.proofs.finish.Goals as goal

-- The session read is one of the 16.
few : (c : After-advance-states) → c.in-Some.session < 16
few c = read_few _ (tested_sound _ _ c.test_run.ensures c.in-Sound.is) _ c.in-Some.is

pub offset_bounds-states-session : goal.offset_bounds-states-session
offset_bounds-states-session c = let b = few c in omega arith

pub bounds-states-session : goal.bounds-states-session
bounds-states-session c = few c

pub fill-requires : goal.fill-requires
fill-requires c =
    let sized : length c.args.run.states ≡ 16 = search (unmapped, rules) in
    let sound = tested_sound _ _ c.test_run.ensures c.in-Sound.is in
    let p = advanced_put _ _ _ _ sized sound c.in-Some.is c.advance-states.ensures in
    omega arith

pub offset_bounds-states-session-2 : goal.offset_bounds-states-session-2
offset_bounds-states-session-2 c =
    let b = few (goal.at.offset_bounds-states-session-2 c).After-advance-states in omega arith

pub bounds-states-session-2 : goal.bounds-states-session-2
bounds-states-session-2 c = few (goal.at.bounds-states-session-2 c).After-advance-states

pub returns : goal.returns
returns c =
    let sound = tested_sound _ _ c.test_run.ensures c.in-Sound.is in
    rw c.fill.ensures
    (finish_counted _ _ sound c.if-d-gt-SPAN_MOST.false _ _ _ _ _ c.in-Some.is c.advance-states.ensures c.place_after-place.ensures
    c.left_in.ensures c.count_off-left.ensures)
