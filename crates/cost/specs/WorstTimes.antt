-- What asking for a worst time answers: docs/RULES.md, section 3.
use Rattle.std.specs.Prelude.{ℕ, [], ◌∷◌, pos, Ok, Err, Result}
use Rattle.std.proofs.Math.Logic.Dec
use Rattle.std.proofs.Math.Decide.{dec_le, dec_lt}
use Rattle.show.specs.Outcomes.{Check}
use Rattle.show.specs.declared.refusal.Refusal.{Refusal}
use Rattle.show.specs.declared.Show.{Show}
use Rattle.show.specs.declared.refusal.Refusal.TheVariants.{DriveLimits, LayoutLimits, NoSession}
use Rattle.show.specs.Decisions.{decided, between?}
use Rattle.show.specs.Checks.{first, unless, show_check}
use Rattle.show.specs.Outcomes.{Outcome, granted, refused_by}
use Rattle.cost.specs.declared.Cost.{Cost}
use Rattle.cost.specs.Bound.{Limited, worst_time}
use Rattle.cost.specs.Costs.{cost_of}

-- the time, unless a test refused
abbrev pub worst_answer : Check → ℕ → Result ℕ Refusal
worst_answer (Ok tt) t = Ok t
worst_answer (Err w) t = Err w

-- The limits of a cost are told, as those of a show are (`drive?` and its like).
unfoldable pub limited? : (c : Cost) → Dec (Limited c)
unfolding Dec.and dec_le
limited? c =
    decided (λ h. record { fixed = h.0; each = h.1.0; cross = h.1.1 }) (λ l. (l.fixed, (l.each, l.cross)))
    (Dec.and (dec_le _ _) (Dec.and (dec_le _ _) (dec_le _ _)))

-- 5: N outside its limit
abbrev pub cylinder_check : ℕ → Check
cylinder_check N = unless (between? 1 N 65536) DriveLimits

-- 6: a cost past its limits. It has no place among layouts: 0.
abbrev pub cost_check : Cost → Check
cost_check c = unless (limited? c) (LayoutLimits 0)

-- U(n) of a cost on cylinders of N blocks, or 5, 6
unfoldable pub takes_of : Cost → ℕ → ℕ → Result ℕ Refusal
takes_of c N n = worst_answer (first (cylinder_check N) (cost_check c)) (worst_time N c n)

-- U(n) of session i, or 2, 5, 6, 7, 9
unfoldable pub worst_of : Show → ℕ → ℕ → Result ℕ Refusal
worst_of s i n =
    worst_answer (first (show_check s) (unless (dec_lt i s.playing) NoSession)) (worst_time s.drive.cylinder (cost_of s i) n)

-- the time, or the refusal
abbrev pub worst_outcome : Result ℕ Refusal → Outcome
worst_outcome (Ok t) = granted (pos t ∷ [])
worst_outcome (Err w) = refused_by w
