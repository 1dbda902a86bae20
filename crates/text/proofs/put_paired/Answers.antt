-- No room for the first number and the words around it, none for the second behind it, or both. Assumes nothing.
use mathlib.Core.Path.{◌≡◌}
use mathlib.Core.List.{List}
use Prim.Native.Nat.{ℕ, ◌+◌}
use native.Mathlib.Omega.{arith}
use lib.ListN.{length, length-append}
use Rattle.show.proofs.Checks.{tells_yes, tells_no}
use Rattle.text.specs.Decimal.{decimal}
use Rattle.text.specs.Lines.{paired}
use Rattle.text.specs.Puts.{FitsAt}
use Rattle.text.proofs.Lines.{pair_put}
use Rattle.text.proofs.Puts.{put_answers, no_room}
use Rattle.text.proofs.put_paired.Goals.{Else-not-fits}
use Rattle.text.proofs.put_paired.Goals as goal

paired_length :
    (before : List ℕ) (a : ℕ) (between : List ℕ) (b : ℕ) (end : List ℕ) →
    length (paired before a between b end)
    ≡ length before + (length (decimal a) + length between) + (length (decimal b) + length end)
paired_length before a between b end = simp length-append (omega arith)

pub returns-then-not-fits : goal.returns-then-not-fits
returns-then-not-fits c =
    let f = tells_no _ c.fits.result c.if-not-fits.true c.fits.ensures in
    let pair = no_room _ _ _
    (λ h. f (omega (arith, h, paired_length c.args.before.now c.args.a c.args.between.now c.args.b c.args.after.now))) in
    record { out_after = pair.0; value = pair.1 }

pub returns-then-not-fits-2 : goal.returns-then-not-fits-2
returns-then-not-fits-2 c =
    let f = tells_no _ c.fits-2.result c.if-not-fits-2.true c.fits-2.ensures in
    let pair = no_room _ _ _
    (λ h. f (omega (arith, h, paired_length c.args.before.now c.args.a c.args.between.now c.args.b c.args.after.now))) in
    record { out_after = pair.0; value = pair.1 }

pub returns : goal.returns
returns c =
    let f = tells_yes _ c.fits-2.result c.if-not-fits-2.false c.fits-2.ensures in
    let room : FitsAt c.args.out.now c.args.at (paired c.args.before.now c.args.a c.args.between.now c.args.b c.args.after.now) =
    record { fits = omega (arith, paired_length c.args.before.now c.args.a c.args.between.now c.args.b c.args.after.now) } in
    let pair = put_answers room
    (pair_put _ _ _ _ _ room c.put_numbered-next.auto.out
    (c.put_numbered-next.ensures.out_after, c.put_numbered-next.ensures.value)
    (c.put_numbered.ensures.out_after, c.put_numbered.ensures.value)) in
    record { out_after = pair.0; value = pair.1 }
