-- `reread` reads what it wrote. Assumes nothing.
use mathlib.Core.Path.{◌≡◌, sym, ◌∙◌}
use lib.ListN.{length}
use lib.Seq.{length-take-le}
use Rattle.show.proofs.Lists.{unmapped}
use Rattle.showfile_copy.proofs.Trip.{reread_refused, reread_inside, reread_answers}
use borrow.Author.Rules.{rules}
use Rattle.showfile_copy.proofs.reread.Goals as goal

pub returns-in-Err : goal.returns-in-Err
returns-in-Err c =
    record {
      value = c.refused.ensures ∙ reread_refused _ _ _ c.write-wrote.ensures.value c.write-wrote.ensures.buffer_after c.in-Err.is;
      buffer_after = c.write-wrote.ensures.buffer_after;
    }

pub slice_bounds-read-end : goal.slice_bounds-read-end
slice_bounds-read-end c =
    reread_inside _ _ _ c.write-wrote.ensures.value c.write-wrote.ensures.buffer_after c.in_default.is

pub slice_bounds-read-end-2 : goal.slice_bounds-read-end-2
slice_bounds-read-end-2 c =
    sym (length-take-le _ _ (reread_inside _ _ _ c.write-wrote.ensures.value c.write-wrote.ensures.buffer_after c.in_default.is))

pub returns : goal.returns
returns c =
    let layouts_eight : length c.args.show.layouts ≡ 8 = search (unmapped, rules) in
    let sessions_sixteen : length c.args.show.sessions ≡ 16 = search (unmapped, rules) in
    record {
      value = c.read.ensures ∙ reread_answers _ _ _ c.write-wrote.ensures.value c.write-wrote.ensures.buffer_after c.in_default.is layouts_eight
          sessions_sixteen;
      buffer_after = c.write-wrote.ensures.buffer_after;
    }
