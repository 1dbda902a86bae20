-- `check` answers the first refusal of 2, 5, 6 and 7. Invariants: no layout below i is refused, no session below k. Assumes nothing.
use Prim.Native.Nat.{◌<◌}
use mathlib.Core.Path.{◌≡◌, sym, ◌∙◌}
use native.Mathlib.Omega.{arith}
use lib.ListN.{length, take}
use Rattle.std.proofs.lemmas.List.{get_or-take, length-take-le}
use Rattle.std.proofs.Common.{rules}
use Rattle.show.specs.declared.refusal.Refusal.TheVariants.{Counts, DriveLimits, LayoutLimits, SessionLimits}
use Rattle.show.specs.Limits.{CountsWithin}
use Rattle.show.specs.Decisions.{counts?, drive?, layout?, session?}
use Rattle.show.specs.Checks.{first, layouts_check, sessions_check, show_check}
use Rattle.show.proofs.Checks.{begun, body, stopped, ended, tells_yes, unless_kept, kept_if, broken_if, first_refused, first_within}
use Rattle.show.proofs.Shows.{rows_left}
use Rattle.show.proofs.Show.check.Goals.{Else-not-counts_within, Else-not-within}
use Rattle.show.proofs.Show.check.Goals as goal

counts : (c : Else-not-counts_within) → CountsWithin c.args.self.laid c.args.self.playing
counts c = tells_yes _ c.counts_within.result c.if-not-counts_within.false c.counts_within.ensures

rows :
    (c : Else-not-within) → CountsWithin c.args.self.laid c.args.self.playing →
    show_check c.args.self ≡ first (layouts_check c.args.self) (sessions_check c.args.self)
rows c h = rows_left _ h (tells_yes _ c.within.result c.if-not-within.false c.within.ensures)

-- The slices that are walked have the counts' lengths.
laid : (c : Else-not-within) → length (take c.args.self.laid c.args.self.layouts) ≡ c.args.self.laid
laid c =
    let room : length c.args.self.layouts ≡ 8 = search rules in
    let h = (counts (goal.at.Else-not-within c).Else-not-counts_within).layouts.high in
    length-take-le _ _ (omega arith)

played : (c : Else-not-within) → length (take c.args.self.playing c.args.self.sessions) ≡ c.args.self.playing
played c =
    let room : length c.args.self.sessions ≡ 16 = search rules in
    let h = (counts (goal.at.Else-not-within c).Else-not-counts_within).sessions in
    length-take-le _ _ (omega arith)

pub returns-then-not-counts_within : goal.returns-then-not-counts_within
unfolding show_check
returns-then-not-counts_within c =
    sym (first_refused _ _ (broken_if (counts? _ _) Counts c.counts_within.result c.if-not-counts_within.true c.counts_within.ensures))

pub returns-then-not-within : goal.returns-then-not-within
unfolding show_check
returns-then-not-within c =
    sym (first_within _ _ (unless_kept (counts? _ _) Counts (counts (goal.at.returns-then-not-within c).Else-not-counts_within))
    ∙ first_refused _ _ (broken_if (drive? _) DriveLimits c.within.result c.if-not-within.true c.within.ensures))

pub loop-i-init : goal.loop-i-init
loop-i-init c =
    begun _ _

pub returns-then-not-within-2 : goal.returns-then-not-within-2
returns-then-not-within-2 c =
    let at = goal.at.returns-then-not-within-2 c in
    let l : c.loop-i.i < c.args.self.laid = omega (arith, laid at.Else-not-within) in
    sym (rows at.Else-not-within (counts at.Else-not-counts_within)
    ∙ first_refused _ _ (sym (stopped _ _ _ c.loop-i.invariant l
    (broken_if (layout? _) (LayoutLimits _) c.within-in-loop-i.result c.if-not-within-2.true (rw get_or-take at c.within-in-loop-i.ensures)))))

pub loop-i-preserved : goal.loop-i-preserved
loop-i-preserved c =
    let l : c.loop-i.i < c.args.self.laid = omega (arith, laid (goal.at.loop-i-preserved c).Else-not-within) in
    body _ _ _ c.loop-i.invariant l
    (kept_if (layout? _) (LayoutLimits _) c.within-in-loop-i.result c.if-not-within-2.false (rw get_or-take at c.within-in-loop-i.ensures))

pub loop-k-init : goal.loop-k-init
loop-k-init c =
    begun _ _

pub returns-then-not-within-3 : goal.returns-then-not-within-3
returns-then-not-within-3 c =
    let at = goal.at.returns-then-not-within-3 c in
    let l : c.loop-k.k < c.args.self.playing = omega (arith, played at.Else-not-within) in
    sym (rows at.Else-not-within (counts at.Else-not-counts_within)
    ∙ first_within _ _ (sym (ended _ _ _ c.loop-i.invariant (omega (arith, laid at.Else-not-within))))
    ∙ sym (stopped _ _ _ c.loop-k.invariant l
    (broken_if (session? _ _) (SessionLimits _) c.within-in-loop-k.result c.if-not-within-3.true (rw get_or-take at c.within-in-loop-k.ensures))))

pub loop-k-preserved : goal.loop-k-preserved
loop-k-preserved c =
    let l : c.loop-k.k < c.args.self.playing = omega (arith, played (goal.at.loop-k-preserved c).Else-not-within) in
    body _ _ _ c.loop-k.invariant l
    (kept_if (session? _ _) (SessionLimits _) c.within-in-loop-k.result c.if-not-within-3.false (rw get_or-take at c.within-in-loop-k.ensures))

pub returns : goal.returns
returns c =
    let at = goal.at.returns c in
    sym (rows at.Else-not-within (counts at.Else-not-counts_within)
    ∙ first_within _ _ (sym (ended _ _ _ c.loop-i.invariant (omega (arith, laid at.Else-not-within))))
    ∙ sym (ended _ _ _ c.loop-k.invariant (omega (arith, played at.Else-not-within))))
