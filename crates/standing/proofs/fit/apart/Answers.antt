-- `apart` seats all and looks for each: the first i are found at their places. Assumes nothing.
use Prim.Native.Nat.{ℕ}
use mathlib.Core.Path.{◌≡◌, ap, ◌∙◌}
use mathlib.Core.List.{List}
use lib.ListN.{get_or, replicate, length-replicate}
use Rattle.order.specs.Order.{named, place_in}
use Rattle.order.proofs.Orders.{ordered_few}
use Rattle.standing.proofs.Fits.{apart_found}
use Rattle.standing.proofs.fit.apart.Goals as goal

pub returns-then-seats-places : goal.returns-then-seats-places
returns-then-seats-places c =
    let seated : c.ordered-seats.result ≡ named (place_in c.args.places) c.args.playing (replicate 16 0) =
    c.ordered-seats.ensures ∙ ordered_few _ _ _ c.requires.0 in
    λ a.
    (let all = apart_found c.args.places (replicate 16 0) c.args.playing (rw (length-replicate {A = ℕ} 16 0) c.requires.0) c.requires.1 a in
    c.if-seats-places.true (ap (λ (o : List ℕ). get_or o (place_in c.args.places c.loop-i.i) 0) seated ∙ all _ c.loop-i-test.true))
