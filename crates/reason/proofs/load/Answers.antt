-- `load` tells the tenths of a per cent of a show within its limits. Assumes nothing.
use Rattle.std.specs.Prelude.{Ok}
use mathlib.Core.Path.{sym, ◌∙◌, ap}
use Rattle.std.proofs.lemmas.Result.{err_from_is_err_and}
use Rattle.show.specs.Limits.{ShowWithin}
use Rattle.show.proofs.Shows.{check_within}
use Rattle.reason.proofs.Loads.{tenths_parts}
use Rattle.reason.proofs.Answers.{load_refused, load_told}
use Rattle.reason.proofs.load.Goals as goal

pub returns-in_err-check : goal.returns-in_err-check
returns-in_err-check c =
    let p = err_from_is_err_and c.from_residual.result c.from_residual.ensures.1 in
    rw (p.1, p.2) (sym (load_refused _ _ (sym c.check.ensures ∙ c.in_err-check.was)))

pub weigh-work-requires : goal.weigh-work-requires
weigh-work-requires c =
    let within : ShowWithin c.args.show = check_within _ (sym c.check.ensures ∙ c.in_ok-check.was) in
    within

pub returns : goal.returns
returns c =
    ap Ok (tenths_parts _ _ c.weigh-work.ensures.0 c.weigh-work.ensures.1) ∙ sym (load_told _ (sym c.check.ensures ∙ c.in_ok-check.was))
