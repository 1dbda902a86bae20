-- `unhex` looks at the whole text first, then puts all its bytes or as many as there is room for. Assumes nothing.
use Prim.Native.Nat.{ℕ, min}
use mathlib.Core.Path.{◌≡◌, sym, ap, ◌∙◌}
use mathlib.Core.List.{List}
use native.Mathlib.Omega.{arith}
use lib.ListN.{length, set}
use Rattle.std.specs.Prelude.{Option}
use Rattle.std.specs.Option.{unwrap_or}
use Rattle.parse_numbers.proofs.Puts.{put_none, put_least, put_more, listed_within, byte_at, count_is}
use Rattle.parse_numbers.proofs.unhex.Goals as goal

pub returns-in_err-all-clause-put : goal.returns-in_err-all-clause-put
returns-in_err-all-clause-put c = put_none _ _ (sym c.bytes.ensures ∙ c.in_err-all.was)

pub bounds-text-i : goal.bounds-text-i
bounds-text-i c =
    omega (arith, listed_within c.args.text.now, count_is _ _ (sym c.bytes.ensures ∙ c.in_ok-all.was), c.min-i-end.ensures)

pub bounds-text-i-in-loop-i : goal.bounds-text-i-in-loop-i
bounds-text-i-in-loop-i c =
    omega (arith, listed_within c.args.text.now, count_is _ _ (sym c.bytes.ensures ∙ c.in_ok-all.was), c.min-i-end.ensures)

pub loop-i-preserved : goal.loop-i-preserved
loop-i-preserved c =
    let n = count_is _ _ (sym c.bytes.ensures ∙ c.in_ok-all.was) in
    ap (λ (l : List ℕ). set l c.loop-i.i c.unwrap_or.result) c.loop-i.invariant
    ∙ put_more _ c.args.out.now c.loop-i.i c.unwrap_or.result (omega arith) (omega arith)
    (c.unwrap_or.ensures ∙ ap (λ (o : Option ℕ). unwrap_or o 0) c.pair.ensures ∙ byte_at c.args.text.now c.loop-i.i (omega arith))

pub returns-clause-put : goal.returns-clause-put
returns-clause-put c =
    let m : c.loop-i.i ≡ min c.in_ok-all.all (length c.args.out.now) = omega arith in
    c.loop-i.invariant ∙ put_least c.args.out.now _ _ _ (sym c.bytes.ensures ∙ c.in_ok-all.was) m
