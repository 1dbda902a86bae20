-- A show read again does not depend on unused places: shows that agree below their counts are read again alike. Assumes nothing.
use Prim.Native.Nat.{ℕ}
use mathlib.Core.Path.{◌≡◌, refl}
use mathlib.Core.List.{List}
use lib.ListN.{length}
use Rattle.show.specs.declared.Show.{Show}
use Rattle.show.specs.Limits.{ShowWithin, Alike}
use Rattle.showfile.specs.File.{zeroed}
use Rattle.showfile.specs.Answers.{reading}
use Rattle.showfile_write.specs.Answers.{write_check}
use Rattle.showfile_write.proofs.Passed.{check_writable}
use Rattle.showfile_write.proofs.Unused.{layouts_same, sessions_same, told_same, write_check_same}
use Rattle.showfile_copy.specs.Trips.{reread_of}

module _ (s t : Show) (a : Alike s t) where
  zeroed_same : ShowWithin s → zeroed s ≡ zeroed t
  unfolding zeroed
  zeroed_same w = rw (layouts_same s t a w, sessions_same s t a w, a.drive, a.laid, a.playing)

  pub reread_same : (note : List ℕ) (room : ℕ) → reread_of s note room ≡ reread_of t note room
  unfolding reread_of
  reread_same note room =
      told_same (λ k x. reading k x (length note)) (λ w x y. refl) (write_check s note room) (write_check t note room) _ _
      (write_check_same s t a note room) (λ e. zeroed_same (check_writable s note room e).within)
