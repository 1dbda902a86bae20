use native.Mathlib.Omega.{arith}
use Rattle.show.specs.declared.refusal.Told.{Told}
use mathlib.Core.Path.{ap}
use borrow.Author.Rules.{rules}
use Rattle.chikchiro.proofs.code.Goals as goal

pub overflow_mul-result : goal.overflow_mul-result
overflow_mul-result c =
    record { fits = (let e = ap (λ (t : Told). t.place) c.told-told.ensures in omega (arith, e, c.requires)) }

pub overflow_add-result : goal.overflow_add-result
overflow_add-result c =
    record { fits = (let e = ap (λ (t : Told). t.place) c.told-told.ensures in omega (arith, e, c.requires)) }

pub returns : goal.returns
returns c =
    (let e = ap (λ (t : Told). t.place) c.told-told.ensures in let n = ap (λ (t : Told). t.number) c.told-told.ensures in omega (arith, e, n))
