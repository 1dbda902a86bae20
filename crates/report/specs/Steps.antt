-- What the private calls promise each other. Nothing outside the crate rests on it.
use Rattle.std.specs.Prelude.{ℕ, ◌≡◌, List}
use Rattle.show.specs.declared.Show.{Show}
use Rattle.show.specs.Limits.{ShowWithin}
use Rattle.theory.specs.Shows.{load_of}
use Rattle.verdict.specs.Answers.{set_of, times_of}

-- counts of a show within its limits, with their times
pub record Timed (s : Show) (counts spent : List ℕ) : Type 0 where
  pub within : ShowWithin s
  pub times : spent ≡ times_of (load_of s) (set_of counts)
