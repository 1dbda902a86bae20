-- What a refusal of a show tells: the limits of the numbers before its own are kept, its own is not, and its place is the lowest offender's.
use Rattle.std.specs.Prelude.{ℕ, ◌<◌}
use Rattle.show.specs.Limits.{CountsWithin, DriveWithin, LaidWithin, PlayingWithin}
use Rattle.show.specs.declared.Show.{Show}
use Rattle.show.specs.declared.refusal.Refusal.{Refusal}
use Rattle.show.specs.declared.refusal.Refusal.TheVariants.{Counts, DriveLimits, LayoutLimits, SessionLimits}

-- The lowest place below n without p.
pub record Lowest (p : ℕ → Type 0) (n i : ℕ) : Type 0 where
  pub inside : i < n
  pub before : (k : ℕ) → k < i → p k
  pub fails : p i → ⊥

-- 2, 5, 6 and 7, in this order, and no other number.
pub data Fault (s : Show) : Refusal → Type 0 where
  counts : (CountsWithin s.laid s.playing → ⊥) → Fault s Counts
  drive : CountsWithin s.laid s.playing → (DriveWithin s.drive → ⊥) → Fault s DriveLimits
  layout :
      {i : ℕ} → CountsWithin s.laid s.playing → DriveWithin s.drive → Lowest (LaidWithin s) s.laid i →
      Fault s (LayoutLimits i)
  session :
      {i : ℕ} → CountsWithin s.laid s.playing → DriveWithin s.drive → ((k : ℕ) → k < s.laid → LaidWithin s k) →
      Lowest (PlayingWithin s) s.playing i → Fault s (SessionLimits i)
