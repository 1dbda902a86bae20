-- A file that is no show's, or a show's reason with the load of its drive. Assumes nothing.
use Rattle.explain.proofs.Texts.{told_unread, told_reason, never_refused}
use Rattle.explain.proofs.put_text.Goals as goal

pub returns-in-Err : goal.returns-in-Err
returns-in-Err c =
    record { text = _; holds = told_unread _ c.read-got.result c.read-got.ensures _ c.in-Err.is; put = c.put_refusal.ensures }

pub returns-in-Ok : goal.returns-in-Ok
returns-in-Ok c =
    record {
      text = _;
      holds = told_reason _ c.read-got.result c.read-got.ensures c.in_default.is c.load.result c.load.ensures _ _ c.in-Ok.is c.why.ensures;
      put = c.put_reason.ensures;
    }

pub returns-in-Err-load : goal.returns-in-Err-load
returns-in-Err-load c =
    never_refused _ c.read-got.result c.read-got.ensures c.in_default.is c.load.result c.load.ensures _ c.in-Err-load.is
