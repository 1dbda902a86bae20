-- The words with the load, then the largest buffer. Assumes nothing.
use native.Mathlib.Omega.{arith}
use Rattle.std.specs.Prelude.{Ok, Some}
use Rattle.text.specs.Puts.{FitsAt}
use Rattle.text.proofs.Puts.{room_put, room_first, room_then, put_then}
use Rattle.reason.specs.declared.Reason.TheVariants.{Beyond}
use Rattle.explain.specs.Text.{beyond_text}
use Rattle.explain.proofs.Sizes.{reason_room}
use Rattle.explain.proofs.line.put_beyond.Goals as goal

pub put_load-most-requires : goal.put_load-most-requires
put_load-most-requires c =
    let room : FitsAt c.args.out.now 0 (beyond_text c.args.tenths) = reason_room c.args.out.now (omega arith) (Ok (Some Beyond)) c.args.tenths in
    room_first _ _ room

pub returns : goal.returns
returns c =
    let room : FitsAt c.args.out.now 0 (beyond_text c.args.tenths) = reason_room c.args.out.now (omega arith) (Ok (Some Beyond)) c.args.tenths in
    let whole = room in
    put_then _ _ whole c.put_load-most.ensures (room_put (room_then _ _ whole c.put_load-most.ensures c.put_load-most.auto.out)
    c.put_numbered.ensures.out_after c.put_numbered.ensures.value)
