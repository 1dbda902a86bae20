-- The number and the place of each refusal: docs/RULES.md, section 4.
use Rattle.std.specs.Prelude.{ℕ}
use Rattle.show.specs.declared.refusal.Told.{Told}
use Rattle.show.specs.declared.refusal.Refusal.{Refusal}
use Rattle.show.specs.declared.refusal.Refusal.TheVariants as refusal

-- a refusal of no one place
abbrev pub alone : ℕ → Told
alone n = record { number = n; place = 0 }

-- What a refusal is told by: a clause for each, with its number and its place.
abbrev pub told_of : Refusal → Told
told_of refusal.FileLength = alone 1
told_of refusal.Counts = alone 2
told_of refusal.Distances = alone 3
told_of refusal.NoteLength = alone 4
told_of refusal.DriveLimits = alone 5
told_of (refusal.LayoutLimits i) = record { number = 6; place = i }
told_of (refusal.SessionLimits i) = record { number = 7; place = i }
told_of refusal.NoSet = alone 8
told_of refusal.NoSession = alone 9
told_of refusal.TooMuch = alone 10
told_of refusal.TooLong = alone 11
told_of refusal.NotStarted = alone 12
told_of refusal.ReadUnderway = alone 13
told_of refusal.PutLimit = alone 14
told_of refusal.NegativeSlack = alone 15
told_of refusal.BufferShort = alone 16
told_of refusal.NothingUnderway = alone 17
told_of refusal.AlreadyStarted = alone 18
told_of refusal.Damaged = alone 19

abbrev pub number_of : Refusal → ℕ
number_of w = (told_of w).number

-- 0 but for 6 and 7
abbrev pub place_of : Refusal → ℕ
place_of w = (told_of w).place

-- the numbers are 1 to this one
abbrev pub number_most : ℕ
number_most = 19
