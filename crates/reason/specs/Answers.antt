-- Why a show is refused, and how loaded its drive is: docs/RULES.md, section 11.
use Rattle.std.specs.Prelude.{ℕ, ◌≡◌, [], ◌∷◌, pos, Ok, Err, Some, None, Result, Option}
use Rattle.show.specs.Outcomes.{Check}
use Rattle.show.specs.declared.Show.{Show}
use Rattle.show.specs.declared.refusal.Refusal.{Refusal}
use Rattle.show.specs.Limits.{ShowWithin, buffer_most}
use Rattle.show.specs.Checks.{show_check}
use Rattle.show.specs.Outcomes.{Outcome, granted, refused_by}
use Rattle.theory.specs.Counts.{Accepted}
use Rattle.theory.specs.Reasons.{NeverKeepsUp, Beyond, TooSmall, tenths}
use Rattle.theory.specs.Shows.{load_of}
use Rattle.reason.specs.declared.Reason.{Reason}
use Rattle.reason.specs.declared.Reason.TheVariants as reason

-- What asking for the reason answers: none for an accepted show, one for an 8, or the refusal of a show outside its limits.
abbrev pub Reasoned : Type 0
Reasoned = Result (Option Reason) Refusal

-- Within the limits: none of an accepted show; else one of the three. Outside them it is 2, 5, 6 or 7.
pub data ReasonIs (s : Show) : Reasoned → Type 0 where
  none : ShowWithin s → Accepted (load_of s) → ReasonIs s (Ok None)
  overload : ShowWithin s → NeverKeepsUp (load_of s) → ReasonIs s (Ok (Some reason.Overload))
  beyond : ShowWithin s → Beyond (load_of s) buffer_most → ReasonIs s (Ok (Some reason.Beyond))
  buffer : (i size : ℕ) → ShowWithin s → TooSmall (load_of s) buffer_most i size → ReasonIs s (Ok (Some (reason.Buffer i size)))
  outside : (w : Refusal) → show_check s ≡ Err w → ReasonIs s (Err w)

-- the tenths, unless a test refused
abbrev pub load_answer : Check → ℕ → Result ℕ Refusal
load_answer (Ok tt) n = Ok n
load_answer (Err w) n = Err w

-- The load in tenths of a per cent, or 2, 5, 6, 7.
unfoldable pub loaded_of : Show → Result ℕ Refusal
loaded_of s = load_answer (show_check s) (tenths (load_of s))

-- which reason, 0 for none; of a buffer that is too small its session and the size that it needs; or the refusal
abbrev pub reason_outcome : Reasoned → Outcome
reason_outcome (Ok None) = granted (pos 0 ∷ [])
reason_outcome (Ok (Some reason.Overload)) = granted (pos 1 ∷ [])
reason_outcome (Ok (Some reason.Beyond)) = granted (pos 2 ∷ [])
reason_outcome (Ok (Some (reason.Buffer i size))) = granted (pos 3 ∷ pos i ∷ pos size ∷ [])
reason_outcome (Err w) = refused_by w

-- the tenths of a per cent, or the refusal
abbrev pub loaded_outcome : Result ℕ Refusal → Outcome
loaded_outcome (Ok n) = granted (pos n ∷ [])
loaded_outcome (Err w) = refused_by w
