-- `settle` finds the least time that sustains. Invariant of the loop: t is the sum of the times so far and at most every such time; of
-- the inner one: the counts of the first i sessions are ahead over the time that the turn began at. What falls: end - t.
-- Assumes nothing.
use Prim.Native.Nat.{◌<◌}
use mathlib.Core.Path.{◌≡◌}
use native.Mathlib.Omega.{arith}
use lib.ListN.{get_or}
use Rattle.theory.specs.Rounds.{asked, Fits}
use Rattle.theory.specs.Shows.{load_of}
use Rattle.verdict.specs.Steps.{rates_of}
use Rattle.verdict.proofs.Ends.{fits_early, none_late, none_begun}
use Rattle.verdict.proofs.Works.{rate_at, count_asked, time_asked, count_few, covered_capped, work_capped}
use Rattle.verdict.proofs.Turns.{begun, stays, part, later_below, later_small, changes, settled}
use Rattle.verdict.proofs.round.settle.Goals as goal
use Rattle.verdict.proofs.round.settle.Goals.{At-loop-i-2, After-takes-time, then-covered-i+else-end-t, else-covered-i}

-- In a turn: the session's rate is the show's, and what it is asked for fits its buffer.
rate : (c : At-loop-i-2) → c.loop-i-2.i < c.args.show.now.playing → get_or c.rates_of-rates.result c.loop-i-2.i 0 ≡ rates_of c.args.show.now c.loop-i-2.i
rate c l = rate_at c.args.show.now _ c.rates_of-rates.ensures _ l

fits : (c : At-loop-i-2) → Fits (load_of c.args.show.now) c.loop-i-2.t
fits c = fits_early _ c.requires _ c.end_of-end.ensures _ c.loop-i-2.invariant.search.early

-- the time that the turn puts in the place of the one before
time :
    (c : After-takes-time) → get_or c.rates_of-rates.result c.loop-i-2.i 0 ≡ rates_of c.args.show.now c.loop-i-2.i →
    let l = load_of c.args.show.now in
    c.takes-time.result ≡ (l.stream c.loop-i-2.i).time (asked l c.loop-i-2.t c.loop-i-2.i)
time c r = time_asked _ c.requires _ _ _ r c.loop-i-2-test.true _ c.takes-time.ensures.0

pub returns-then-end-eq0 : goal.returns-then-end-eq0
returns-then-end-eq0 c =
    none_begun _ c.requires _ c.end_of-end.ensures c.if-end-eq0.true

pub loop-i-init : goal.loop-i-init
loop-i-init c =
    begun _ c.requires _ c.if-end-eq0.false

pub overflow_mul-work : goal.overflow_mul-work
overflow_mul-work c =
    let at = goal.at.overflow_mul-work c in
    let r = rate at.At-loop-i-2 c.loop-i-2-test.true in
    let f = fits at.At-loop-i-2 in
    omega (arith, work_capped _ c.requires _ _ _ r c.loop-i-2-test.true f)

pub overflow_add-count : goal.overflow_add-count
overflow_add-count c =
    let at = goal.at.overflow_add-count c in
    let r = rate at.At-loop-i-2 c.loop-i-2-test.true in
    let f = fits at.At-loop-i-2 in
    omega (arith, count_few _ c.requires _ _ _ r c.loop-i-2-test.true f)

pub overflow_cast-count : goal.overflow_cast-count
overflow_cast-count c =
    let at = goal.at.overflow_cast-count c in
    let r = rate at.At-loop-i-2 c.loop-i-2-test.true in
    let f = fits at.At-loop-i-2 in
    omega (arith, count_few _ c.requires _ _ _ r c.loop-i-2-test.true f)

pub overflow_sub-t : goal.overflow_sub-t
overflow_sub-t c =
    part _ c.requires _ _ _ _ _ _ c.loop-i-2.invariant c.loop-i-2-test.true

pub overflow_add-t : goal.overflow_add-t
overflow_add-t c =
    let at = goal.at.overflow_add-t c in
    let r = rate at.At-loop-i-2 c.loop-i-2-test.true in
    let e = time at.After-takes-time r in
    let f = fits at.At-loop-i-2 in
    omega (arith, later_small _ c.requires _ _ _ _ _ _ c.loop-i-2.invariant c.loop-i-2-test.true _ e f)

pub returns-then-end-t : goal.returns-then-end-t
returns-then-end-t c =
    let at = goal.at.returns-then-end-t c in
    let r = rate at.At-loop-i-2 c.loop-i-2-test.true in
    let e = time at.After-takes-time r in
    let f = fits at.At-loop-i-2 in
    none_late _ c.requires _ c.end_of-end.ensures _ (later_below _ c.requires _ _ _ _ _ _ c.loop-i-2.invariant c.loop-i-2-test.true _ e) c.if-end-t.true
    (let h = later_small _ c.requires _ _ _ _ _ _ c.loop-i-2.invariant c.loop-i-2-test.true _ e f in omega arith)

pub overflow_mul-covered : goal.overflow_mul-covered
overflow_mul-covered c =
    let at = goal.at.overflow_mul-covered c in
    let r = rate at.At-loop-i-2 c.loop-i-2-test.true in
    let f = fits at.At-loop-i-2 in
    omega (arith, covered_capped _ c.requires _ _ _ r c.loop-i-2-test.true f)

pub loop-i-2-preserved : goal.loop-i-2-preserved
loop-i-2-preserved c =
    let w = c.requires in
    let r = rate (goal.at.loop-i-2-preserved c).At-loop-i-2 c.loop-i-2-test.true in
    elim c.if-covered-i.branch [
      | then-covered-i+else-end-t v ↦
          let e = time_asked _ w _ _ _ r c.loop-i-2-test.true _ v.takes-time.ensures.0 in
          rw (v.covered-is, v.times-is, v.t-is)
          (changes _ w _ _ _ _ _ _ c.loop-i-2.invariant c.loop-i-2-test.true _ e _ (count_asked _ w _ _ _ r) v.if-end-t.false)
      | else-covered-i v ↦
          rw (v.covered-is, v.times-is, v.t-is)
          (stays _ w _ _ _ _ _ _ c.loop-i-2.invariant c.loop-i-2-test.true _ r v.if-covered-i.false)
    ]

pub returns-then-t-before : goal.returns-then-t-before
returns-then-t-before c =
    settled _ c.requires _ _ _ _ _ _ c.loop-i-2.invariant c.end_of-end.ensures c.loop-i-2-test.false c.if-t-before.true
