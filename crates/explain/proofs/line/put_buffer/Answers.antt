-- The line, the sentence up to the load, and the load. Assumes nothing.
use native.Mathlib.Omega.{arith}
use Rattle.std.specs.Prelude.{Ok, Some}
use Prim.Native.Nat.{ℕ}
use mathlib.Core.List.{List}
use Rattle.text.specs.Ascii.{ascii}
use Rattle.text.specs.Puts.{FitsAt}
use Rattle.text.proofs.Puts.{room_put, room_first, room_then, answer_then}
use Rattle.reason.specs.declared.Reason.TheVariants.{Buffer}
use Rattle.explain.specs.Text.{load_text, buffer_text}
use Rattle.explain.proofs.Sizes.{reason_room}
use Rattle.explain.proofs.line.put_buffer.Goals as goal

abbrev lastly : ℕ → List ℕ
lastly tenths = load_text (ascii "") tenths (ascii " per cent.\n")

pub put_load-requires : goal.put_load-requires
put_load-requires c =
    let room : FitsAt c.args.out.now 0 (buffer_text c.args.session c.args.size c.args.tenths) =
    reason_room c.args.out.now (omega arith) (Ok (Some (Buffer c.args.session c.args.size))) c.args.tenths in
    let room_behind : FitsAt c.put_paired-load.new.out c.put_paired-load.result (lastly c.args.tenths) = let whole = room in
    let then = room_then _ _ whole (room_put (room_first _ _ whole) c.put_paired-clip.ensures.out_after c.put_paired-clip.ensures.value)
    c.put_paired-clip.auto.out in
    room_then _ _ then (room_put (room_first _ _ then) c.put_paired-load.ensures.out_after c.put_paired-load.ensures.value) c.put_paired-load.auto.out
    in
    room_behind

pub returns : goal.returns
returns c =
    let room : FitsAt c.args.out.now 0 (buffer_text c.args.session c.args.size c.args.tenths) =
    reason_room c.args.out.now (omega arith) (Ok (Some (Buffer c.args.session c.args.size))) c.args.tenths in
    answer_then _ _ room (c.put_paired-clip.ensures.out_after, c.put_paired-clip.ensures.value) c.put_paired-clip.auto.out
    (λ r. answer_then _ _ r (c.put_paired-load.ensures.out_after, c.put_paired-load.ensures.value) c.put_paired-load.auto.out
    (λ l. c.put_load.ensures))
