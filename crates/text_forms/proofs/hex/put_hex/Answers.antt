-- A dash, no room, or the pairs. Assumes nothing.
use mathlib.Core.Path.{◌≡◌, sym, ap, ◌∙◌}
use native.Mathlib.Omega.{arith}
use Rattle.std.proofs.lemmas.Bool.Decides.{nat_tests}
use lib.ListN.{length}
use Rattle.show.proofs.Checks.{tells_yes, tells_no}
use Rattle.text.specs.Puts.{put_over, put_to, FitsAt}
use Rattle.text_forms.specs.Hex.{pairs_text, hex_text}
use Rattle.text.proofs.Puts.{put_answers, no_room, room_as, put_as}
use Rattle.text_forms.proofs.Pairs.{hex_some, hex_none, pairs_length}
use Rattle.text_forms.proofs.hex.put_hex.Goals as goal

pub returns-then-is_empty : goal.returns-then-is_empty
returns-then-is_empty c =
    let e = sym (hex_none c.args.bytes.now (grind (arith, nat_tests))) in
    record {
      out_after = c.put_word.ensures.out_after ∙ ap (put_over c.args.out.now c.args.at) e;
      value = c.put_word.ensures.value ∙ ap (put_to c.args.out.now c.args.at) e;
    }

pub returns-then-not-pairs_fit : goal.returns-then-not-pairs_fit
returns-then-not-pairs_fit c =
    let some : (hex_text c.args.bytes.now ≡ pairs_text c.args.bytes.now) = hex_some c.args.bytes.now (grind (arith, nat_tests)) in
    let f = tells_no _ c.pairs_fit.result c.if-not-pairs_fit.true c.pairs_fit.ensures in
    let pair = no_room c.args.out.now c.args.at (hex_text c.args.bytes.now) (λ h. f (omega (arith, h, pairs_length c.args.bytes.now, ap length some)))
    in record { out_after = pair.0; value = pair.1 }

pub returns : goal.returns
returns c =
    let some : (hex_text c.args.bytes.now ≡ pairs_text c.args.bytes.now) = hex_some c.args.bytes.now (grind (arith, nat_tests)) in
    let room : (FitsAt c.args.out.now c.args.at (pairs_text c.args.bytes.now)) = let f =
    tells_yes _ c.pairs_fit.result c.if-not-pairs_fit.false c.pairs_fit.ensures in
    record { fits = omega (arith, pairs_length c.args.bytes.now) } in
    let e = sym some in
    let pair = put_answers (room_as e room) (put_as e c.put_pairs.ensures) in record { out_after = pair.0; value = pair.1 }

pub put_pairs-requires : goal.put_pairs-requires
put_pairs-requires c =
    let f = tells_yes _ c.pairs_fit.result c.if-not-pairs_fit.false c.pairs_fit.ensures in
    record { fits = omega (arith, pairs_length c.args.bytes.now) }
