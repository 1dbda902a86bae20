-- What a take answers, on one session's state: docs/RULES.md, section 10.
use Rattle.std.specs.Prelude.{ℕ, ◌-◌, Bool, Ok, Err}
use Rattle.std.proofs.Math.Decide.{dec_le}
use Rattle.show.specs.Outcomes.{Check}
use Rattle.show.specs.declared.Session.{Session}
use Rattle.show.specs.declared.refusal.Refusal.TheVariants as refusal
use Rattle.show.specs.Checks.{unless, first}
use Rattle.state.specs.declared.State.{State}
use Rattle.state.specs.Decisions.{true?, state?}
use Rattle.state.specs.State.{drawn}
use Rattle.player.specs.declared.Drawn.{Drawn}

-- 19: P, G and C are not in order for the session, before the start or after
abbrev pub state_check : Bool → Session → State → Check
state_check started x s = unless (state? started x s) refusal.Damaged

-- 12: before the start
abbrev pub early_check : Bool → Check
early_check started = unless (true? started) refusal.NotStarted

-- 10: more than P - G
abbrev pub held_check : State → ℕ → Check
held_check s n = unless (dec_le n (s.put - s.taken)) refusal.TooMuch

-- 19, 12, 10
unfoldable pub take_check : Bool → Session → State → ℕ → Check
take_check started x s n = first (state_check started x s) (first (early_check started) (held_check s n))

-- Granted, the next state; refused, the state that was given.
abbrev pub drawn_by : Check → State → State → Drawn
drawn_by (Ok tt) s next = record { check = Ok tt; state = next }
drawn_by (Err w) s next = record { check = Err w; state = s }

unfoldable pub drawn_of : State → Session → Bool → ℕ → Drawn
drawn_of s x started n = drawn_by (take_check started x s n) s (drawn n s)
