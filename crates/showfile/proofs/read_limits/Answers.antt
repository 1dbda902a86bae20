-- `read_limits` leaves 5, 6 and 7 to the show's own test. Assumes nothing.
use mathlib.Core.Path.{◌≡◌, sym, ap, ◌∙◌}
use Rattle.std.proofs.lemmas.List.{take_rest}
use Rattle.show.specs.Checks.{show_check, limits_check}
use Rattle.show.proofs.Shows.{limits_left}
use Rattle.showfile.specs.File.{show_from}
use Rattle.showfile.specs.Checks.{note_length}
use Rattle.showfile.specs.Answers.{shown_at}
use Rattle.showfile.proofs.read_limits.Goals.{After-check}
use Rattle.showfile.proofs.read_limits.Goals as goal

shown : (c : After-check) → c.get_show-show.result ≡ shown_at c.args.file.now c.args.at c.args.t
shown c =
    c.get_show-show.ensures ∙ ap (show_from c.args.t) (take_rest c.args.file.now (note_length c.args.at c.args.t))

checked : (c : After-check) → c.check.result ≡ limits_check (shown_at c.args.file.now c.args.at c.args.t)
unfolding show_from
checked c =
    c.check.ensures ∙ ap show_check (shown c) ∙ limits_left (shown_at c.args.file.now c.args.at c.args.t) c.requires.counts

pub returns-in-Ok : goal.returns-in-Ok
returns-in-Ok c =
    let at = (goal.at.returns-in-Ok c).After-check in rw (shown at, sym (checked at) ∙ c.in-Ok.is)

pub returns-in-Err : goal.returns-in-Err
returns-in-Err c =
    let at = (goal.at.returns-in-Err c).After-check in rw (c.refused.ensures, sym (checked at) ∙ c.in-Err.is)
