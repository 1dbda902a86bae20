use Rattle.showfile.proofs.ByteLaws.{one_over, part_over}
use Rattle.show.proofs.Lists.{unmapped}
use borrow.Author.Rules.{rules}
use mathlib.Core.Path.{◌≡◌}
use lib.ListN.{length}
use native.Mathlib.Omega.{arith}
use Rattle.chikchiro.proofs.Answers.{decision_small, decided_no, decided_yes}
use Rattle.chikchiro.specs.Answers.{short, slices}
use Rattle.chikchiro.proofs.chikchiro_decide.Goals as goal

pub returns-then-counts-lt16 : goal.returns-then-counts-lt16
returns-then-counts-lt16 c =
    short (λ h. let n = h.counts in omega (arith, n, c.if-counts-lt16.true))

pub returns-then-times-lt16 : goal.returns-then-times-lt16
returns-then-times-lt16 c =
    short (λ h. let n = h.times in omega (arith, n, c.if-times-lt16.true))

pub returns-then-round-lt1 : goal.returns-then-round-lt1
returns-then-round-lt1 c =
    short (λ h. let n = h.round in omega (arith, n, c.if-round-lt1.true))

pub code-requires : goal.code-requires
code-requires c =
    decision_small _ c.decided-decision.result c.decided-decision.ensures c.in-Err.is

pub returns-in-Err : goal.returns-in-Err
returns-in-Err c =
    decided_no _ (slices c.args.counts.now c.args.times.now c.args.round.now) c.decided-decision.result
    (record { counts = c.if-counts-lt16.false; times = c.if-times-lt16.false; round = c.if-round-lt1.false }) c.decided-decision.ensures
    c.in-Err.is c.code.ensures

pub returns : goal.returns
returns c =
    let d = c.decided-decision.result in
    let counts : length d.counts ≡ 16 = search (unmapped, rules) in
    let times : length d.times ≡ 16 = search (unmapped, rules) in
    decided_yes _ (slices c.args.counts.now c.args.times.now c.args.round.now) d
    (record { counts = c.if-counts-lt16.false; times = c.if-times-lt16.false; round = c.if-round-lt1.false }) c.decided-decision.ensures
    c.in_default.is (rw c.copy_from_slice.ensures.after (part_over c.args.counts.now 0 16 d.counts counts))
    (rw c.copy_from_slice-2.ensures.after (part_over c.args.times.now 0 16 d.times times)) (one_over _ 0 _ c.if-round-lt1.false)
