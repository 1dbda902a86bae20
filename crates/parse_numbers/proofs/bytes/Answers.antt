-- `bytes` looks at each pair. Assumes nothing.
use mathlib.Core.Path.{refl, sym, ◌∙◌}
use native.Mathlib.Omega.{arith}
use lib.ListN.{length}
use Rattle.std.proofs.lemmas.Bool.{eqb-true, eqb-false}
use Rattle.parse_numbers.proofs.Pairs.{bytes_none, odd, body, stopped, ended, byte_here}
use Rattle.parse_numbers.proofs.bytes.Goals as goal
use Rattle.parse_numbers.proofs.bytes.Goals.{then-is_empty-via-then-is_empty, then-is_empty-via-else-is_empty+then-not-is_empty, After-pair}

pub returns-then-is_empty : goal.returns-then-is_empty
returns-then-is_empty c =
    elim c.then-is_empty.branch [
      | then-is_empty-via-then-is_empty w ↦
          let none = eqb-true (length c.as_chunks.result.0.now) 0 (sym w.if-is_empty.ensures) in
          bytes_none _ (omega (arith, none, c.as_chunks.ensures.front_len))
      | then-is_empty-via-else-is_empty+then-not-is_empty w ↦
          let some = eqb-false (length c.as_chunks.result.1.now) 0 (sym w.if-not-is_empty.ensures) in
          odd _ _ refl (λ h. some (omega (arith, h, c.as_chunks.ensures.back_len)))
    ]

pub returns-in_err-pair : goal.returns-in_err-pair
returns-in_err-pair c =
    let w = c.loop-high.invariant.whole in
    let n = c.as_chunks.ensures.front_len in
    let e = byte_here c.args.text.now _ _ c.loop-high.high-index c.as_chunks.ensures.front (omega (arith, n)) (omega (arith, n)) in
    c.from_residual.ensures ∙ stopped _ _ _ c.loop-high.invariant c.loop-high-test.true _ (c.pair.ensures ∙ e) c.in_err-pair.was

pub loop-high-preserved : goal.loop-high-preserved
loop-high-preserved c =
    let w = c.loop-high.invariant.whole in
    let n = c.as_chunks.ensures.front_len in
    let e = byte_here c.args.text.now _ _ c.loop-high.high-index c.as_chunks.ensures.front (omega (arith, n)) (omega (arith, n)) in
    body _ _ _ c.loop-high.invariant c.loop-high-test.true _ _ (c.pair.ensures ∙ e) c.in_ok-pair.was

pub returns : goal.returns
returns c =
    let some = eqb-false (length c.as_chunks.result.0.now) 0 (sym c.if-is_empty.ensures) in
    ended _ _ _ c.loop-high.invariant (omega arith) c.loop-high-test.false
