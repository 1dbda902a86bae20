-- Too short, or the text in the first bytes of the buffer. Assumes nothing.
use native.Mathlib.Omega.{arith}
use Rattle.text.specs.Told.{short}
use Rattle.text.proofs.Told.{told_front, put_inside}
use Rattle.explain.specs.Answers.{said_most}
use Rattle.explain.proofs.Sizes.{said_most_holds}
use Rattle.explain.proofs.explain.Goals as goal

pub returns-in_default : goal.returns-in_default
returns-in_default c =
    record {
      explain_is = short c.in_default.ensures.cases;
      len_in_bounds = omega arith;
    }

pub returns : goal.returns
returns c =
    let k = c.in-Some.ensures.cases in
    record {
      explain_is = told_front _ said_most (said_most_holds _) _ _ _ _ k.same k.enough c.put_text-len.ensures;
      len_in_bounds = put_inside _ _ _ _ _ c.put_text-len.ensures;
    }
