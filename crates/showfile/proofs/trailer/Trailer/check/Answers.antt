-- `check` stops at the first of 2, 3 and 4. Assumes nothing.
use mathlib.Core.Path.{sym}
use Rattle.show.specs.Limits.{CountsWithin}
use Rattle.show.proofs.Checks.{tells_yes, tells_no}
use Rattle.showfile.specs.Checks.{Distanced}
use Rattle.showfile.proofs.Passed.{framed_check}
use Rattle.showfile.proofs.Stops.{trailer_counts, trailer_distances, trailer_note}
use Rattle.showfile.proofs.trailer.Trailer.check.Goals.{Else-not-counts_within, Else-not-distanced}
use Rattle.showfile.proofs.trailer.Trailer.check.Goals as goal

counts : (c : Else-not-counts_within) → CountsWithin c.args.self.laid c.args.self.playing
counts c = tells_yes _ c.counts_within.result c.if-not-counts_within.false c.counts_within.ensures

distances : (c : Else-not-distanced) → Distanced c.args.at c.args.self
distances c = tells_yes _ c.distanced.result c.if-not-distanced.false c.distanced.ensures

pub returns-then-not-counts_within : goal.returns-then-not-counts_within
returns-then-not-counts_within c =
    trailer_counts _ _ (tells_no _ c.counts_within.result c.if-not-counts_within.true c.counts_within.ensures)

pub returns-then-not-distanced : goal.returns-then-not-distanced
returns-then-not-distanced c =
    trailer_distances _ _ (counts (goal.at.returns-then-not-distanced c).Else-not-counts_within)
    (tells_no _ c.distanced.result c.if-not-distanced.true c.distanced.ensures)

pub returns-then-not-note_within : goal.returns-then-not-note_within
returns-then-not-note_within c =
    let at = goal.at.returns-then-not-note_within c in
    trailer_note _ _ (counts at.Else-not-counts_within) (distances at.Else-not-distanced)
    (tells_no _ c.note_within.result c.if-not-note_within.true c.note_within.ensures)

pub returns : goal.returns
returns c =
    let at = goal.at.returns c in
    sym (framed_check _ _ (record {
      counts = counts at.Else-not-counts_within;
      distances = distances at.Else-not-distanced;
      note = tells_yes _ c.note_within.result c.if-not-note_within.false c.note_within.ensures;
    }))
