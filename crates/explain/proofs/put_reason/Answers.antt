-- The words of each reason. Assumes nothing.
use native.Mathlib.Omega.{arith}
use Rattle.std.specs.Prelude.{Ok, None}
use mathlib.Core.Path.{sym, ap, ◌∙◌}
use Rattle.text.proofs.Puts.{put_as}
use Rattle.reason.specs.Answers.{Reasoned}
use Rattle.explain.specs.Text.{reason_text}
use Rattle.explain.proofs.Sizes.{reason_room}
use Rattle.explain.proofs.put_reason.Goals as goal

pub put_load-requires : goal.put_load-requires
put_load-requires c =
    reason_room c.args.out.now (omega arith) (Ok None) c.args.tenths

pub returns-in-Ok-None : goal.returns-in-Ok-None
returns-in-Ok-None c =
    put_as
    (sym
    (ap (λ (x : Reasoned). reason_text x c.args.tenths)
    (c.in-Ok-None.is ∙ ap Ok (rw c.in-Ok-None.is at c.in-Ok-None.field-0-is)))) c.put_load.ensures
