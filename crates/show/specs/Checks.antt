-- The tests of a show, 2, 5, 6 and 7 (docs/RULES.md, section 4), and how tests follow one another: the first refusal counts.
use Rattle.std.specs.Prelude.{ℕ, zero, suc, Ok, Err}
use Rattle.std.proofs.Math.Logic.{ite}
use Rattle.show.specs.Outcomes.{Check}
use Rattle.show.specs.Limits.{layout_at, session_at}
use Rattle.show.specs.Decisions.{counts?, drive?, layout?, session?}
use Rattle.show.specs.declared.Drive.{Drive}
use Rattle.show.specs.declared.Show.{Show}
use Rattle.show.specs.declared.refusal.Refusal.{Refusal}
use Rattle.show.specs.declared.refusal.Refusal.TheVariants.{Counts, DriveLimits, LayoutLimits, SessionLimits}

-- refused with w unless p holds
abbrev pub unless : {p : Type 0} → Dec p → Refusal → Check
unless d w = ite d (Ok tt) (Err w)

-- the first refusal of two tests
abbrev pub first : Check → Check → Check
first (Ok tt) c = c
first (Err w) c = Err w

-- the first refusal of the places 0 to n - 1: the lowest offender
unfoldable pub first_below : (ℕ → Check) → ℕ → Check
first_below test zero = Ok tt
first_below test (suc n) = first (first_below test n) (test n)

-- 2: layout count not 1 to 8, or session count over 16
abbrev pub counts_check : ℕ → ℕ → Check
counts_check laid playing = unless (counts? laid playing) Counts

-- 5: A or N outside its limit
abbrev pub drive_check : Drive → Check
drive_check d = unless (drive? d) DriveLimits

-- 6: a layout outside its limits
abbrev pub layout_check : Show → ℕ → Check
layout_check s i = unless (layout? (layout_at s i)) (LayoutLimits i)

abbrev pub layouts_check : Show → Check
layouts_check s = first_below (layout_check s) s.laid

-- 7: a session outside its limits
abbrev pub session_check : Show → ℕ → Check
session_check s i = unless (session? s.laid (session_at s i)) (SessionLimits i)

abbrev pub sessions_check : Show → Check
sessions_check s = first_below (session_check s) s.playing

-- 5, 6, 7
abbrev pub limits_check : Show → Check
limits_check s = first (drive_check s.drive) (first (layouts_check s) (sessions_check s))

-- 2, 5, 6, 7
unfoldable pub show_check : Show → Check
show_check s = first (counts_check s.laid s.playing) (limits_check s)
