-- `copy` writes what it read. Assumes nothing.
use mathlib.Core.Path.{refl}
use Rattle.showfile.proofs.Sizes.{note_part}
use Rattle.showfile_copy.proofs.Trip.{copy_refused, copy_answers}
use borrow.Author.Rules.{rules}
use Rattle.showfile_copy.proofs.copy.Goals as goal

pub returns-in-Err : goal.returns-in-Err
returns-in-Err c =
    let pair = copy_refused _ _ c.read-got.ensures refl c.in-Err.is in record { value = pair.0; buffer_after = pair.1 }

pub slice_bounds-write-end : goal.slice_bounds-write-end
slice_bounds-write-end c =
    note_part _ c.read-got.ensures

pub returns : goal.returns
returns c =
    let pair = copy_answers _ _ c.read-got.ensures (λ i. search rules) c.in_default.is c.write.ensures.value
    c.write.ensures.buffer_after in record { value = pair.0; buffer_after = pair.1 }
