-- The places of a run, and a run with some of its parts changed: docs/RULES.md, section 9.
use Rattle.std.specs.Prelude.{ℕ, ◌+◌, ◌%◌, ◌≤◌, List, get_or, Option}
use Rattle.show.specs.declared.Session.{Session}
use Rattle.show.specs.Limits.{session_at}
use Rattle.verdict.specs.Answers.{set_of}
use Rattle.state.specs.declared.State.{State}
use Rattle.state.specs.State.{no_state, put_most, Room}
use Rattle.run.specs.declared.Run.{Run}

-- how many sessions play
abbrev pub playing : Run → ℕ
playing r = r.show.playing

-- What stands at a place; past the last place, zeros.
abbrev pub state_at : Run → ℕ → State
state_at r i = get_or r.states i no_state

abbrev pub clip_at : Run → ℕ → Session
clip_at r i = session_at r.show i

-- M of a session
abbrev pub count_at : Run → ℕ → ℕ
count_at r i = set_of r.counts i

-- the session at a place of the cycle, and its whole count
abbrev pub seat_at : Run → ℕ → ℕ
seat_at r k = get_or r.order k 0

abbrev pub whole_at : Run → ℕ → ℕ
whole_at r k = count_at r (seat_at r k)

-- What is left of a count when an operation begins at place k of an order: the whole count of the session there. Opening, Idle, start and
-- the end of an operation all go by this.
unfoldable pub left_in : List ℕ → List ℕ → ℕ → ℕ
left_in counts order k = set_of counts (get_or order k 0)

abbrev pub left_at : Run → ℕ → ℕ
left_at r k = left_in r.counts r.order k

-- the place k places on; after the last comes the first
abbrev pub onward : Run → ℕ → ℕ
onward r k = (r.place + k) % playing r

-- one more block has room
abbrev pub RoomAt : Run → ℕ → Type 0
RoomAt r i = Room r.show.drive.block (clip_at r i) (state_at r i)

-- the longest time that may pass in one call, in µs
abbrev pub span_most : ℕ
span_most = 1000000000

-- one more block keeps to the limit on P
abbrev pub PutAt : Run → ℕ → Type 0
PutAt r i = (state_at r i).put + r.show.drive.block ≤ put_most

-- other states, all else as it was
abbrev pub with_states : Run → List State → Run
with_states r l =
    record {
      show = r.show;
      counts = r.counts;
      states = l;
      order = r.order;
      place = r.place;
      left = r.left;
      underway = r.underway;
      started = r.started;
    }

-- another moment of the cycle, all else as it was
abbrev pub with_cycle : Run → ℕ → ℕ → Option ℕ → Run
with_cycle r place left underway =
    record {
      show = r.show;
      counts = r.counts;
      states = r.states;
      order = r.order;
      place = place;
      left = left;
      underway = underway;
      started = r.started;
    }
