use Rattle.std.proofs.lemmas.Result.{err_from_is_err_and}
use Rattle.chikchiro.proofs.Answers.{reason_read, reason_unread}
use Rattle.chikchiro.proofs.reasoned.Goals as goal

pub returns-in_err-got : goal.returns-in_err-got
returns-in_err-got c =
    let p = err_from_is_err_and c.from_residual.result c.from_residual.ensures.1 in
    rw (p.1, p.2) (reason_unread _ c.read-got.result c.read-got.ensures _ c.in_err-got.was)

pub returns : goal.returns
returns c =
    reason_read _ c.read-got.result c.read-got.ensures _ c.in_ok-got.was c.why.ensures
