-- What `load` answers, case by case. Assumes nothing.
use Rattle.std.specs.Prelude.{Ok, Err}
use mathlib.Core.Path.{◌≡◌}
use Rattle.show.specs.declared.Show.{Show}
use Rattle.show.specs.declared.refusal.Refusal.{Refusal}
use Rattle.show.specs.Checks.{show_check}
use Rattle.theory.specs.Reasons.{tenths}
use Rattle.theory.specs.Shows.{load_of}
use Rattle.reason.specs.Answers.{loaded_of}

pub load_refused : (s : Show) (w : Refusal) → show_check s ≡ Err w → loaded_of s ≡ Err w
unfolding loaded_of
load_refused s w e = rw e

pub load_told : (s : Show) → show_check s ≡ Ok tt → loaded_of s ≡ Ok (tenths (load_of s))
unfolding loaded_of
load_told s e = rw e
