-- A file that is no show's, a show with no set, or the smallest set. Assumes nothing.
use native.Mathlib.Omega.{arith}
use Rattle.report.proofs.Texts.{told_unread, told_yes, told_no}
use Rattle.report.proofs.Sizes.{text_room}
use Rattle.report.proofs.put_text.Goals as goal

pub returns-in-Err : goal.returns-in-Err
returns-in-Err c =
    record {
      text = _;
      holds = told_unread _ c.read-got.result c.read-got.ensures _ c.in-Err.is;
      put = c.put_refusal.ensures;
    }

pub returns-in-Err-verdict : goal.returns-in-Err-verdict
returns-in-Err-verdict c =
    record {
      text = _;
      holds = told_no _ c.read-got.result c.read-got.ensures c.in_default.is c.decide-decision.result _ c.decide-decision.ensures
          c.in-Err-verdict.is;
      put = c.put_refusal-in-Err-verdict.ensures;
    }

pub put_accepted-requires : goal.put_accepted-requires
put_accepted-requires c =
    let y = told_yes _ c.read-got.result
    c.read-got.ensures c.in_default.is
    c.decide-decision.result c.decide-decision.ensures c.in_default-verdict.is in
    record {
      timed = y.timed;
      round_value = y.round;
      fits_at = text_room _ _ c.args.out.now y.told (omega arith);
    }

pub returns : goal.returns
returns c =
    let y = told_yes _ c.read-got.result
    c.read-got.ensures
    c.in_default.is
    c.decide-decision.result c.decide-decision.ensures
    c.in_default-verdict.is in
    record { text = _; holds = y.told; put = c.put_accepted.ensures }
