-- P, G and C of a session: what is sound, and what each step makes of them: docs/RULES.md, section 9.
use Rattle.std.specs.Prelude.{ℕ, min, ◌+◌, ◌*◌, ◌≤◌, ◌≡◌, Bool, false}
use Rattle.show.specs.declared.Session.{Session}
use Rattle.state.specs.declared.State.{State}

abbrev pub no_state : State
no_state = record { put = 0; taken = 0; clock = 0 }

-- A session's state when its show is opened: nothing put, taken or played.
abbrev pub first_state : Session → State
first_state x = no_state

-- the limit on P
abbrev pub put_most : ℕ
put_most = 1099511627776

-- P + A - G is at most B: one more block has room.
abbrev pub Room : ℕ → Session → State → Type 0
Room block x s = s.put + block ≤ s.taken + x.buffer

-- Before the start nothing is taken and the clock stands at 0.
pub record Waiting (s : State) : Type 0 where
  pub taken : s.taken ≡ 0
  pub clock : s.clock ≡ 0

-- P, G and C of a session with the numbers x.
pub record StateSound (started : Bool) (x : Session) (s : State) : Type 0 where
  pub put : s.put ≤ put_most
  pub taken : s.taken ≤ s.put
  pub held : s.put ≤ s.taken + x.buffer
  pub clock : s.clock ≤ s.taken * 1000000
  pub early : started ≡ false → Waiting s

-- C after d µs: the smaller of C + R x d and G x 1,000,000
abbrev pub ticked : ℕ → ℕ → State → State
ticked rate d s = record { put = s.put; taken = s.taken; clock = min (s.clock + rate * d) (s.taken * 1000000) }

-- G moves forward by n bytes.
abbrev pub drawn : ℕ → State → State
drawn n s = record { put = s.put; taken = s.taken + n; clock = s.clock }

-- A block has come.
abbrev pub filled : ℕ → State → State
filled block s = record { put = s.put + block; taken = s.taken; clock = s.clock }
