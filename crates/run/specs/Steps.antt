-- What each step makes of a run: docs/RULES.md, section 9.
use Rattle.std.specs.Prelude.{ℕ, zero, suc, ◌+◌, ◌-◌, Bool, true, false, List, get_or, set, Some, None}
use Rattle.std.proofs.Math.Logic.{ite}
use Rattle.std.proofs.Math.Decide.{dec_le}
use Rattle.state.specs.declared.State.{State}
use Rattle.state.specs.State.{no_state, ticked, drawn, filled}
use Rattle.run.specs.declared.Run.{Run}
use Rattle.run.specs.Run.{playing, state_at, clip_at, seat_at, left_at, onward, with_states, with_cycle}
use Rattle.run.specs.Decisions.{room?}

-- each of the first n states changed by its number, the others as they were
unfoldable pub changed : (ℕ → State → State) → ℕ → List State → List State
changed f zero l = l
changed f (suc n) l = set (changed f n l) n (f n (get_or l n no_state))

-- the clock of a session of a run, d µs later
abbrev pub ticked_at : Run → ℕ → ℕ → State → State
ticked_at r d i s = ticked (clip_at r i).rate d s

-- Once started, each clock goes on; before the start, nothing changes.
abbrev pub states_after : Bool → Run → ℕ → List State
states_after true r d = changed (ticked_at r d) (playing r) r.states
states_after false r d = r.states

unfoldable pub passed : Run → ℕ → Run
passed r d = with_states r (states_after r.started r d)

-- G moves forward by n bytes on session i.
unfoldable pub drawn_at : Run → ℕ → ℕ → Run
drawn_at r i n = with_states r (set r.states i (drawn n (state_at r i)))

-- Nobody has room: the place stays, and an operation is to begin there.
unfoldable pub idled : Run → Run
idled r = with_cycle r r.place (left_at r r.place) r.underway

-- the first of n numbers from k on of which p holds; k + n if there is none
unfoldable pub first_from : {p : ℕ → Type 0} → ((k : ℕ) → Dec (p k)) → ℕ → ℕ → ℕ
first_from d k zero = k
first_from d k (suc n) = ite (d k) k (first_from d (k + 1) n)

-- how many sessions are skipped: those from the place on that have no room, up to the first that has
unfoldable pub skipped : Run → ℕ
skipped r = first_from (λ k. room? r (seat_at r (onward r k))) 0 (playing r)

-- what is left after k were skipped: a fresh operation's if any was
abbrev pub left_after : ℕ → ℕ → ℕ → ℕ
left_after zero left fresh = left
left_after (suc k) left fresh = fresh

abbrev pub left_past : Run → ℕ → ℕ
left_past r k = left_after k r.left (left_at r (onward r k))

-- The read of the session at a place is under way, with so many left.
unfoldable pub begun : Run → ℕ → ℕ → Run
begun r place left = with_cycle r place left (Some (seat_at r place))

-- A block has come for session i.
abbrev pub stored : Run → ℕ → Run
stored r i = with_states r (set r.states i (filled r.show.drive.block (state_at r i)))

-- One block fewer is left; at none left the cycle moves on, and an operation is to begin there.
unfoldable pub counted : Run → Run
counted r =
    ite (dec_le r.left 1) (with_cycle r (onward r 1) (left_at r (onward r 1)) None)
    (with_cycle r r.place (r.left - 1) None)

unfoldable pub landed : Run → ℕ → Run
landed r i = counted (stored r i)
