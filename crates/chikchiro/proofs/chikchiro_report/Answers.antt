use Rattle.chikchiro.specs.Answers.{reported}
use borrow.Author.Rules.{rules}
use Rattle.chikchiro.proofs.chikchiro_report.Goals as goal

pub returns : goal.returns
returns c =
    reported _ _ c.report-told.ensures.report_is
