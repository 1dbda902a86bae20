-- What came before stays at the front of the room, and what this read gave stands after it.
use Rattle.std.proofs.Common.{◌≡◌, ◌∙◌, sym, ap, subst, rules, take, drop, ℕ, List, ◌+◌, ◌++◌}
use Rattle.std.proofs.Math.Seq.{take-add}
use Rattle.std.proofs.KnownBytes.{Consumes-trans}
use Rattle.std.specs.Io.KnownBytes.{Consumes}
use Rattle.input.proofs.read_all.Goals as goal

pub loop-at-preserved : goal.loop-at-preserved
loop-at-preserved g c =
    let left = g.R.Read.remaining in
    let came = c.read_at-came in
    let at = c.loop-at.at in
    let piece = take came.result.len (drop at came.new.room) in
    let whole : take at c.loop-at.room ++ piece ≡ take (at + came.result.len) came.new.room =
    ap (λ (front : List ℕ). front ++ piece) (sym came.ensures.room_unchanged) ∙ sym (take-add at came.result.len came.new.room) in
    let both = Consumes-trans (left c.args.input.now) (left c.loop-at.input) (left came.new.input) (take at c.loop-at.room) piece
    c.loop-at.invariant.1 came.ensures.bytes in
    (search rules, subst (λ (bytes : List ℕ). Consumes (left c.args.input.now) (left came.new.input) bytes) whole both)
