-- `takes` answers U of reads on a layout within its limits: there nothing is refused. Assumes nothing.
use Rattle.std.specs.Prelude.{Ok}
use mathlib.Core.Path.{◌≡◌, ap, ◌∙◌}
use native.Mathlib.Omega.{arith}
use Rattle.cost.specs.declared.Cost.{Cost}
use Rattle.cost.specs.Bound.{worst_time}
use Rattle.cost.specs.Costs.{read_cost}
use Rattle.cost.specs.WorstTimes.{takes_of}
use Rattle.verdict.proofs.Sets.{takes_told}
use Rattle.verdict.proofs.known.takes.Goals as goal

pub returns : goal.returns
returns c =
    let t = takes_told c.args.layout c.args.cylinder c.args.n c.requires.0 c.requires.1 (omega arith) in
    let told : c.takes.result ≡ Ok (worst_time c.args.cylinder (read_cost c.args.layout) c.args.n) =
    c.takes.ensures ∙ ap (λ (x : Cost). takes_of x c.args.cylinder c.args.n) c.of_read.ensures ∙ t.0 in
    let e = rw told at c.unwrap_or.ensures in
    (e, rw e t.1)
