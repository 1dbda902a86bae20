-- No room, or the pieces. Assumes nothing.
use Rattle.show.proofs.Checks.{tells_yes, tells_no}
use Rattle.text.specs.Puts.{FitsAt}
use Rattle.text_forms.specs.Forms.{form_text}
use Rattle.text.proofs.Puts.{put_answers, no_room}
use Rattle.text_forms.proofs.put_form.Goals as goal

pub returns-then-not-form_fits : goal.returns-then-not-form_fits
returns-then-not-form_fits c =
    let pair = no_room _ _ _ (tells_no _ c.form_fits.result c.if-not-form_fits.true c.form_fits.ensures) in
    record { out_after = pair.0; value = pair.1 }

pub returns : goal.returns
returns c =
    let room : (FitsAt c.args.out.now c.args.at (form_text c.args.form.now c.args.numbers.now)) =
    record { fits = tells_yes _ c.form_fits.result c.if-not-form_fits.false c.form_fits.ensures } in
    let pair = put_answers room c.put_pieces.ensures in record { out_after = pair.0; value = pair.1 }
