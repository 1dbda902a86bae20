-- No room, or what stands before the number, the number, and what stands after it. Assumes nothing.
use mathlib.Core.Path.{◌≡◌}
use mathlib.Core.List.{List, ◌++◌}
use Prim.Native.Nat.{ℕ, ◌+◌}
use native.Mathlib.Omega.{arith}
use lib.ListN.{length, length-append}
use Rattle.show.proofs.Checks.{tells_yes, tells_no}
use Rattle.text.specs.Decimal.{decimal}
use Rattle.text.specs.Puts.{FitsAt}
use Rattle.text.proofs.Puts.{room_then, put_then, put_answers, no_room}
use Rattle.text.proofs.put_numbered.Goals.{Else-not-fits, After-put_bytes-number}
use Rattle.text.proofs.put_numbered.Goals as goal

three_length : (t u v : List ℕ) → length (t ++ (u ++ v)) ≡ length t + (length u + length v)
three_length t u v = simp length-append

room : (c : Else-not-fits) → FitsAt c.args.out.now c.args.at (c.args.before.now ++ (decimal c.args.n ++ c.args.after.now))
room c =
    let f = tells_yes _ c.fits.result c.if-not-fits.false c.fits.ensures in
    record { fits = omega (arith, three_length c.args.before.now (decimal c.args.n) c.args.after.now) }

-- the room behind what stands before
room_number :
    (c : After-put_bytes-number) → FitsAt c.args.out.now c.args.at (c.args.before.now ++ (decimal c.args.n ++ c.args.after.now)) →
    FitsAt c.put_bytes-number.new.out c.put_bytes-number.result (decimal c.args.n ++ c.args.after.now)
room_number c r = room_then _ _ r c.put_bytes-number.ensures c.put_bytes-number.auto.out

pub returns-then-not-fits : goal.returns-then-not-fits
returns-then-not-fits c =
    let f = tells_no _ c.fits.result c.if-not-fits.true c.fits.ensures in
    let pair = no_room _ _ _ (λ h. f (omega (arith, h, three_length c.args.before.now (decimal c.args.n) c.args.after.now))) in
    record { out_after = pair.0; value = pair.1 }

pub returns : goal.returns
returns c =
    let at = goal.at.returns c in
    let r = room at.Else-not-fits in
    let pair = put_answers r
    (put_then _ _ r c.put_bytes-number.ensures
    (put_then _ _ (room_number at.After-put_bytes-number r) c.put_decimal-end.ensures c.put_bytes.ensures)) in
    record { out_after = pair.0; value = pair.1 }
