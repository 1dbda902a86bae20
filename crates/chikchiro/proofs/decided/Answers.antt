use Rattle.chikchiro.proofs.Answers.{decision_read, decision_unread}
use borrow.Author.Rules.{rules}
use Rattle.chikchiro.proofs.decided.Goals as goal

pub returns-in-Err : goal.returns-in-Err
returns-in-Err c =
    decision_unread _ c.read-got.result c.read-got.ensures _ c.in-Err.is

pub returns : goal.returns
returns c =
    decision_read _ c.read-got.result c.read-got.ensures _ c.in_default.is c.decide.ensures
