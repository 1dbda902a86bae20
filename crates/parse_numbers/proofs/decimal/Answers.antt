-- `decimal` reads digit by digit. Assumes nothing.
use Rattle.std.proofs.Common.{◌∙◌}
use native.Mathlib.Omega.{arith}
use Rattle.std.proofs.lemmas.Bool.Decides.{nat_tests}
use Rattle.parse_numbers.proofs.Values.{number_none, body, stopped, ended}
use Rattle.parse_numbers.proofs.decimal.Goals as goal

pub returns-then-is_empty : goal.returns-then-is_empty
returns-then-is_empty c = number_none _ (grind (arith, nat_tests))

pub returns-in_err-n : goal.returns-in_err-n
returns-in_err-n c = c.from_residual.ensures ∙ stopped _ _ _ c.loop-b.invariant c.loop-b-test.true _ c.longer.ensures c.in_err-n.was

pub loop-b-preserved : goal.loop-b-preserved
loop-b-preserved c = body _ _ _ c.loop-b.invariant c.loop-b-test.true _ _ c.longer.ensures c.in_ok-n.was

pub returns : goal.returns
returns c = ended _ _ _ c.loop-b.invariant (grind (arith, nat_tests)) c.loop-b-test.false
