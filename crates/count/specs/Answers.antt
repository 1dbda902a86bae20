-- What asking for a count answers, and what has room in a buffer: docs/RULES.md, section 7.
use Rattle.std.specs.Prelude.{ℕ, ◌+◌, ◌*◌, ◌%◌, ◌≤◌, ◌≡◌, [], ◌∷◌, pos, Ok, Err, Result}
use Rattle.std.proofs.Math.Logic.Dec
use Rattle.std.proofs.Math.Decide.{ℕ_discrete}
use Rattle.show.specs.Outcomes.{Check}
use Rattle.show.specs.declared.refusal.Refusal.{Refusal}
use Rattle.show.specs.declared.Session.{Session}
use Rattle.show.specs.declared.refusal.Refusal.TheVariants.{DriveLimits, SessionLimits}
use Rattle.show.specs.Limits.{Between, block_least, block_most, rate_most}
use Rattle.show.specs.Decisions.{decided, between?}
use Rattle.show.specs.Checks.{first, unless}
use Rattle.show.specs.Outcomes.{Outcome, granted, refused_by}
use Rattle.theory.specs.Rounds.{need}

-- A, as in a drive within its limits
pub record BlockWithin (A : ℕ) : Type 0 where
  pub size : Between block_least A block_most
  pub whole : A % 512 ≡ 0

-- R, as in a session within its limits
abbrev pub RateWithin : ℕ → Type 0
RateWithin R = Between 1 R rate_most

unfoldable pub block? : (A : ℕ) → Dec (BlockWithin A)
unfolding Dec.and between? ℕ_discrete
block? A =
    decided (λ h. record { size = h.0; whole = h.1 }) (λ b. (b.size, b.whole)) (Dec.and (between? _ _ _) (ℕ_discrete _ _))

-- 5: A outside its limits
abbrev pub block_check : ℕ → Check
block_check A = unless (block? A) DriveLimits

-- 7: R outside its limits. It has no place among sessions: 0.
abbrev pub rate_check : ℕ → Check
rate_check R = unless (between? 1 R rate_most) (SessionLimits 0)

-- the count, unless a test refused
abbrev pub asked_answer : Check → ℕ → Result ℕ Refusal
asked_answer (Ok tt) m = Ok m
asked_answer (Err w) m = Err w

-- The least count that is ahead of the rate R over t µs in blocks of A bytes, or 5, 7.
unfoldable pub need_of : ℕ → ℕ → ℕ → Result ℕ Refusal
need_of R A t = asked_answer (first (block_check A) (rate_check R)) (need R (A * 1000000) t)

-- the count, or the refusal
abbrev pub asked_outcome : Result ℕ Refusal → Outcome
asked_outcome (Ok m) = granted (pos m ∷ [])
asked_outcome (Err w) = refused_by w

-- (M + 1) x A + Y is at most B
abbrev pub Buffered : ℕ → Session → ℕ → Type 0
Buffered A x m = (m + 1) * A + x.cushion ≤ x.buffer
