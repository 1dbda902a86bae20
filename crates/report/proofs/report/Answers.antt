-- Too short, or the text in the first bytes of the buffer. Assumes nothing.
use native.Mathlib.Omega.{arith}
use Rattle.text.specs.Told.{short}
use Rattle.text.proofs.Told.{told_front, put_inside}
use Rattle.report.specs.Answers.{text_most}
use Rattle.report.proofs.Sizes.{text_most_holds}
use Rattle.report.proofs.report.Goals as goal

pub returns-in_default : goal.returns-in_default
returns-in_default c =
    record {
      report_is = short c.in_default.ensures.cases;
      len_in_bounds = omega arith;
    }

pub returns : goal.returns
returns c =
    let k = c.in-Some.ensures.cases in
    record {
      report_is = told_front _ text_most (text_most_holds _) _ _ _ _ k.same k.enough c.put_text-len.ensures;
      len_in_bounds = put_inside _ _ _ _ _ c.put_text-len.ensures;
    }
