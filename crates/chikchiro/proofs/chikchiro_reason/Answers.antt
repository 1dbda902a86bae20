use native.Mathlib.Omega.{arith}
use Rattle.chikchiro.proofs.Answers.{reason_small, reasoned_as}
use Rattle.chikchiro.specs.Answers.{short}
use Rattle.std.specs.Prelude.{Ok}
use mathlib.Core.Path.{refl, ap, ◌∙◌}
use Rattle.chikchiro.proofs.chikchiro_reason.Goals as goal

pub returns-then-reason-lt3 : goal.returns-then-reason-lt3
returns-then-reason-lt3 c =
    short (λ n. omega (arith, n, c.if-reason-lt3.true))

pub code-requires : goal.code-requires
code-requires c =
    reason_small _ c.reasoned.result c.reasoned.ensures c.in-Err.is

pub returns-in-Ok-None : goal.returns-in-Ok-None
returns-in-Ok-None c =
    reasoned_as _ _ c.reasoned.result c.if-reason-lt3.false c.reasoned.ensures
    (c.in-Ok-None.is ∙ ap Ok c.in-Ok-None.field-0-is) c.put_reason.ensures.0 c.put_reason.ensures.1

pub returns-in-Ok-Some : goal.returns-in-Ok-Some
returns-in-Ok-Some c =
    reasoned_as _ _ c.reasoned.result c.if-reason-lt3.false c.reasoned.ensures
    (c.in-Ok-Some.is ∙ ap Ok c.in-Ok-Some.field-0-is) c.put_found.ensures.0 c.put_found.ensures.1

pub returns-in-Err : goal.returns-in-Err
returns-in-Err c =
    reasoned_as _ _ c.reasoned.result c.if-reason-lt3.false c.reasoned.ensures c.in-Err.is c.code.ensures refl
