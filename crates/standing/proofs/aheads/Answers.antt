-- `aheads` fills a row from the front: the first i workaheads stand there, zeros above. Assumes nothing.
use mathlib.Core.Path.{◌≡◌, sym, ◌∙◌, ap}
use native.Mathlib.Omega.{arith}
use lib.IntN.{ℤ, pos}
use Rattle.std.specs.Prelude.{Result}
use Rattle.std.specs.Result.{result_unwrap_or}
use Rattle.show.specs.declared.refusal.Refusal.{Refusal}
use mir.Syntax.{w64}
use mir.Val.{to_z, of_z}
use Rattle.show.proofs.Lists.{filled_none, filled_more}
use Rattle.standing.specs.Times.{ahead_at}
use Rattle.standing.proofs.Calls.{run_ahead}
use borrow.Author.Rules.{rules}
use Rattle.standing.proofs.aheads.Goals as goal

pub loop-i-init : goal.loop-i-init
loop-i-init c = filled_none 16 (pos 0) _

pub loop-i-preserved : goal.loop-i-preserved
loop-i-preserved c =
    let e : to_z w64 (of_z w64 c.unwrap_or.result) ≡ c.unwrap_or.result = search rules in
    let r = run_ahead _ c.requires _ c.loop-i-test.true in
    let m = filled_more 16 (pos 0) (ahead_at c.args.run.now) c.loop-i.i (omega arith) in
    let u : c.unwrap_or.result ≡ ahead_at c.args.run.now c.loop-i.i
    = c.unwrap_or.ensures ∙ ap (λ (x : Result ℤ Refusal). result_unwrap_or x (pos 0)) (c.ahead_of.ensures ∙ sym r) in
    cc
