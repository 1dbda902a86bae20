-- `note` hands back the front of the file. Assumes nothing.
use Rattle.showfile.proofs.Sizes.{note_part}
use Rattle.showfile.proofs.note.Goals as goal

pub slice_bounds-result-end : goal.slice_bounds-result-end
slice_bounds-result-end c =
    note_part _ c.read-end.ensures
