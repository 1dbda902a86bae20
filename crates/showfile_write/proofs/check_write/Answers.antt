-- `check_write` stops at the first of 2, 4, 5, 6, 7 and 16. Assumes nothing.
use Prim.Native.Nat.{◌+◌, ◌*◌}
use mathlib.Core.Path.{◌≡◌, sym, ◌∙◌}
use native.Mathlib.Omega.{arith}
use lib.ListN.{length}
use Rattle.std.proofs.lemmas.Result.{err_from_is_err_and}
use Rattle.show.specs.Limits.{CountsWithin, ShowWithin}
use Rattle.show.proofs.Checks.{tells_yes, tells_no}
use Rattle.show.proofs.Lists.{unmapped}
use Rattle.show.proofs.Shows.{check_within}
use Rattle.showfile.specs.File.{file_of}
use Rattle.showfile_write.proofs.Stops.{write_counts, write_note, write_limits, write_short, write_within}
use Rattle.showfile_write.proofs.Sizes.{shown_length}
use borrow.Author.Rules.{rules}
use Rattle.showfile_write.proofs.check_write.Goals.{Else-not-counts_within, In_ok-check}
use Rattle.showfile_write.proofs.check_write.Goals as goal

counts : (c : Else-not-counts_within) → CountsWithin c.args.show.now.laid c.args.show.now.playing
counts c = tells_yes _ c.counts_within.result c.if-not-counts_within.false c.counts_within.ensures

within : (c : In_ok-check) → ShowWithin c.args.show.now
within c = check_within _ (sym c.check.ensures ∙ c.in_ok-check.was)

size : (c : In_ok-check) → length (file_of c.args.show.now c.args.note.now) ≡ length c.args.note.now + 16 * (c.args.show.now.laid + c.args.show.now.playing) + 20
size c = shown_length _ _ (search (unmapped, rules)) (search (unmapped, rules)) (within c).counts

pub returns-then-not-counts_within : goal.returns-then-not-counts_within
returns-then-not-counts_within c =
    write_counts _ _ _ (tells_no _ c.counts_within.result c.if-not-counts_within.true c.counts_within.ensures)

pub returns-then-note-gt-NOTE_MOST : goal.returns-then-note-gt-NOTE_MOST
returns-then-note-gt-NOTE_MOST c =
    write_note _ _ _ (counts (goal.at.returns-then-note-gt-NOTE_MOST c).Else-not-counts_within) (λ h. omega arith)

pub returns-in_err-check : goal.returns-in_err-check
returns-in_err-check c =
    let p = err_from_is_err_and c.from_residual.result c.from_residual.ensures.1 in
    rw (p.1, p.2)
    (write_limits _ _ _ (counts (goal.at.returns-in_err-check c).Else-not-counts_within) (omega arith) (sym c.check.ensures ∙ c.in_err-check.was))

pub returns-then-room-note : goal.returns-then-room-note
returns-then-room-note c =
    let at = (goal.at.returns-then-room-note c).In_ok-check in
    let e = size at in
    write_short _ _ _ (within at) (omega arith) (omega arith)

pub returns : goal.returns
returns c =
    let at = (goal.at.returns c).In_ok-check in
    let e = size at in
    write_within _ _ _ (within at) (omega arith) (omega arith)
