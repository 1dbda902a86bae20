-- No room, or the bytes. Assumes nothing.
use native.Mathlib.Omega.{arith}
use Rattle.show.proofs.Checks.{tells_yes, tells_no}
use Rattle.text.proofs.Puts.{put_answers, no_room}
use Rattle.text.proofs.put_word.Goals as goal

pub returns-then-not-fits : goal.returns-then-not-fits
returns-then-not-fits c =
    let f = tells_no _ c.fits.result c.if-not-fits.true c.fits.ensures in
    let pair = no_room _ _ _ (λ h. f (omega (arith, h))) in record { out_after = pair.0; value = pair.1 }

pub returns : goal.returns
returns c =
    let f = tells_yes _ c.fits.result c.if-not-fits.false
    c.fits.ensures in
    let pair = put_answers (record { fits = omega arith }) c.put_bytes.ensures in record { out_after = pair.0; value = pair.1 }
