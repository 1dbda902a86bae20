-- The line, then the sentence. Assumes nothing.
use native.Mathlib.Omega.{arith}
use mathlib.Core.Path.{◌≡◌, sym, ap}
use Rattle.text.specs.Lines.{refused_text}
use Rattle.text.specs.Puts.{FitsAt, Put}
use Rattle.text.proofs.Puts.{room_as, answer_as, room_first, room_then, put_as, put_then}
use Rattle.text.proofs.Lines.{refusal_made}
use Rattle.show.specs.Refusals.{told_of}
use Rattle.explain.specs.Text.{sentence, refusal_text}
use Rattle.explain.proofs.Sizes.{refusal_room}
use Rattle.explain.proofs.put_refusal.Goals as goal

pub put_sentence-requires : goal.put_sentence-requires
put_sentence-requires c =
    let told : sentence (told_of c.args.why) ≡ sentence c.told-told.result = ap sentence (sym c.told-told.ensures) in
    let room : FitsAt c.args.out.now 0 (refusal_text c.args.why) = refusal_room c.args.out.now (omega arith) c.args.why in
    let line : Put c.args.out.now 0 (refused_text c.args.why) c.put_paired-next.new.out c.put_paired-next.result =
    answer_as (refusal_made c.args.why c.told-told.result c.told-told.ensures) (room_first _ _ room)
    (c.put_paired-next.ensures.out_after, c.put_paired-next.ensures.value) in
    room_as told (room_then _ _ room line c.put_paired-next.auto.out)

pub returns : goal.returns
returns c =
    let room : FitsAt c.args.out.now 0 (refusal_text c.args.why) = refusal_room c.args.out.now (omega arith) c.args.why in
    let line : Put c.args.out.now 0 (refused_text c.args.why) c.put_paired-next.new.out c.put_paired-next.result =
    answer_as (refusal_made c.args.why c.told-told.result c.told-told.ensures) (room_first _ _ room)
    (c.put_paired-next.ensures.out_after, c.put_paired-next.ensures.value) in
    let told : sentence (told_of c.args.why) ≡ sentence c.told-told.result = ap sentence (sym c.told-told.ensures) in
    put_then _ _ room line (put_as (sym told) c.put_sentence.ensures)
