-- One line, which every buffer for every text takes. Assumes nothing.
use native.Mathlib.Omega.{arith}
use Rattle.text.proofs.Puts.{answer_as}
use Rattle.text.proofs.Lines.{refusal_made, refused_few}
use Rattle.report.proofs.put_refusal.Goals as goal

pub returns : goal.returns
returns c =
    answer_as (refusal_made c.args.why c.told-told.result c.told-told.ensures) (record { fits = omega (arith, refused_few c.args.why) })
    (c.put_paired.ensures.out_after, c.put_paired.ensures.value)
