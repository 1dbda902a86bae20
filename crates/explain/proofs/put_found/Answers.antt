-- The words of each reason. Assumes nothing.
use native.Mathlib.Omega.{arith}
use Rattle.std.specs.Prelude.{Ok, Some}
use Rattle.reason.specs.declared.Reason.TheVariants.{Overload}
use Rattle.explain.proofs.Sizes.{reason_room}
use Rattle.explain.proofs.put_found.Goals as goal

pub put_load-requires : goal.put_load-requires
put_load-requires c =
    reason_room c.args.out.now (omega arith) (Ok (Some Overload)) c.args.tenths
