-- `least` finds the least: that of the first k places. Assumes nothing.
use Prim.Native.Nat.{ℕ, ◌^◌, ◌≤◌, ◌<◌}
use mathlib.Core.Path.{◌≡◌, ◌∙◌}
use mathlib.Core.List.{List}
use native.Mathlib.Omega.{arith}
use lib.IntN.{ℤ, pos, ◌-ℤ◌}
use lib.ListN.{replicate}
use lib.Signed.{mag}
use borrow.Author.Rules.{rules}
use mir.Syntax.{w64}
use mir.Val.{to_z, of_z}
use mir.Facts.{to_z-of_z}
use Rattle.standing.specs.declared.Standing.{Standing}
use Rattle.standing.specs.Standing.{Fit}
use Rattle.order.specs.Order.{place_in, ahead_in, ordered_by}
use Rattle.order.proofs.Orders.{ordered_few}
use Rattle.standing.proofs.Seats.{Seated, seat_in, named_seats, first_small, next_small, turned_first, turned, turned_all}
use Rattle.standing.proofs.Standings.{less_small}
use Rattle.standing.proofs.least.least.Goals as goal

-- of the standing that was given: the sessions by their places, and each one's workahead, as it is read and net of a load
module _ (s : Standing) (f : Fit s) {o : List ℕ} (e : o ≡ ordered_by s.places s.playing (replicate 16 0)) where
  seats : Seated (place_in s.places) (seat_in o) s.playing
  seats = named_seats (place_in s.places) s.playing _ f.few f.below f.apart _ (e ∙ ordered_few _ _ _ f.few)

  few : (k : ℕ) → k < s.playing → seat_in o k < 16
  few k l = let i = seats.inside k l in let n = f.few in omega arith

  module _ (k : ℕ) (l : k < s.playing) where
    read : to_z w64 (of_z w64 (ahead_in s.aheads (seat_in o k))) ≡ ahead_in s.aheads (seat_in o k)
    read = let h = f.aheads _ (seats.inside k l) in to_z-of_z {w = w64} (record { sfits = omega arith })

    near : mag (to_z w64 (of_z w64 (ahead_in s.aheads (seat_in o k)))) < 2 ^ 62
    near = rw read (f.aheads _ (seats.inside k l))

    spare_is :
        (x : ℤ) (load : ℕ) → load ≤ 2 ^ 61 → x ≡ to_z w64 (of_z w64 (ahead_in s.aheads (seat_in o k))) -ℤ pos load →
        to_z w64 (of_z w64 x) ≡ ahead_in s.aheads (seat_in o k) -ℤ pos load
    spare_is x load h g = rw (g, read) (to_z-of_z (less_small _ _ (f.aheads _ (seats.inside k l)) h))

pub bounds-s-first : goal.bounds-s-first
bounds-s-first c = few _ c.requires.fit c.ordered-seats.ensures 0 c.requires.playing_nonzero

pub bounds-s-first-2 : goal.bounds-s-first-2
bounds-s-first-2 c = few _ c.requires.fit c.ordered-seats.ensures 0 c.requires.playing_nonzero

pub net-least-requires : goal.net-least-requires
net-least-requires c = (
  near _ c.requires.fit c.ordered-seats.ensures 0 c.requires.playing_nonzero,
  first_small _ _ (seats _ c.requires.fit c.ordered-seats.ensures) c.requires.fit c.requires.playing_nonzero,
)

pub loop-k-init : goal.loop-k-init
loop-k-init c =
    let p = seats _ c.requires.fit c.ordered-seats.ensures in
    turned_first _ _ p _ c.requires.playing_nonzero
    (spare_is _ c.requires.fit c.ordered-seats.ensures 0 c.requires.playing_nonzero _ _
    (first_small _ _ p c.requires.fit c.requires.playing_nonzero) c.net-least.ensures)

pub bounds-s-i : goal.bounds-s-i
bounds-s-i c = few _ c.requires.fit c.ordered-seats.ensures _ c.loop-k-test.true

pub overflow_add-sum : goal.overflow_add-sum
overflow_add-sum c =
    let p = seats _ c.requires.fit c.ordered-seats.ensures in
    record { fits = omega (arith, next_small _ _ p c.requires.fit _ _ c.loop-k-test.true c.loop-k.invariant.times) }

pub bounds-s-i-in-loop-k : goal.bounds-s-i-in-loop-k
bounds-s-i-in-loop-k c = few _ c.requires.fit c.ordered-seats.ensures _ c.loop-k-test.true

pub net-requires : goal.net-requires
net-requires c = (
  near _ c.requires.fit c.ordered-seats.ensures _ c.loop-k-test.true,
  omega (arith, next_small _ _ (seats _ c.requires.fit c.ordered-seats.ensures) c.requires.fit _ _ c.loop-k-test.true c.loop-k.invariant.times),
)

pub loop-k-preserved : goal.loop-k-preserved
loop-k-preserved c =
    let p = seats _ c.requires.fit c.ordered-seats.ensures in
    let x = spare_is _ c.requires.fit c.ordered-seats.ensures _ c.loop-k-test.true _ _
    (next_small _ _ p c.requires.fit _ _ c.loop-k-test.true c.loop-k.invariant.times) c.net.ensures in
    let fits : to_z w64 (of_z w64 c.min-least.result) ≡ c.min-least.result = search rules in
    turned _ _ p _ _ _ _ c.loop-k.invariant c.loop-k-test.true x _ (fits ∙ c.min-least.ensures.value)

pub returns : goal.returns
returns c = turned_all _ _ (seats _ c.requires.fit c.ordered-seats.ensures) _ _ _ c.loop-k.invariant c.loop-k-test.false
