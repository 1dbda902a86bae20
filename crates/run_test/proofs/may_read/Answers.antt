-- `may_read` tells whether a read that is under way may be. Assumes nothing.
use mathlib.Core.Logic.{inl, inr}
use native.Mathlib.Omega.{arith}
use Rattle.std.proofs.lemmas.Bool.Decides.{eqb_tells}
use Rattle.run.specs.Run.{seat_at}
use Rattle.run.proofs.Orders.{names_below}
use Rattle.run_test.proofs.may_read.Goals as goal

pub bounds-run-seat : goal.bounds-run-seat
bounds-run-seat c = let b = names_below _ _ c.requires.names_each _ c.requires.place in omega arith

pub bounds-run-seat-then-read-seat : goal.bounds-run-seat-then-read-seat
bounds-run-seat-then-read-seat c = let b = names_below _ _ c.requires.names_each _ c.requires.place in omega arith

pub returns-else-read-seat : goal.returns-else-read-seat
returns-else-read-seat c =
    elim (eqb_tells c.in-Some.read (seat_at c.args.run.now c.args.run.now.place)) [
      | inl h ↦ absurd (c.if-read-seat.false h.1)
      | inr h ↦ rw h.0 (λ g. h.1 (g _ c.in-Some.is).seat)
    ]
