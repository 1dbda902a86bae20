-- The text that is left fits in the room that is left where all of it fits from `at` on. Assumes nothing.
use mathlib.Core.Path.{◌≡◌, ap, ◌∙◌}
use mathlib.Core.List.{List}
use Prim.Native.Nat.{ℕ, ◌+◌, ◌<◌}
use native.Mathlib.Omega.{arith}
use lib.ListN.{length, drop, get_or, length-append}
use Rattle.text_forms.specs.Forms.{form_text, piece_text, left_after}
use Rattle.text_forms.proofs.Forms.{form_more, form_end}
use Rattle.text_forms.proofs.form_fits.Goals as goal

more_length :
    (form numbers : List ℕ) (i : ℕ) → i < length form →
    length (form_text (drop i form) numbers)
    ≡ length (piece_text (get_or form i 0) numbers) + length (form_text (drop (i + 1) form) (left_after (get_or form i 0) numbers))
more_length form numbers i h = ap length (form_more form numbers i h) ∙ length-append (piece_text (get_or form i 0) numbers) _

pub returns-then-room-size : goal.returns-then-room-size
returns-then-room-size c =
    let m = more_length c.args.form.now c.loop-b.left.now c.loop-b.b-index c.loop-b-test.true in
    λ f. omega (arith, f, m, c.piece_size-size.ensures)

pub loop-b-preserved : goal.loop-b-preserved
loop-b-preserved c =
    let m = more_length c.args.form.now c.loop-b.left.now c.loop-b.b-index c.loop-b-test.true in
    let e = ap (λ (left : List ℕ). length (form_text (drop (c.loop-b.b-index + 1) c.args.form.now) left)) c.left_of-left.ensures in
    omega (arith, m, e, c.piece_size-size.ensures)

pub returns : goal.returns
returns c = omega (arith, ap length (form_end c.args.form.now c.loop-b.left.now c.loop-b.b-index c.loop-b-test.false))
