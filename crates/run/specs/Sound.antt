-- A sound run, and so refusal 19, exactly: docs/RULES.md, section 9.
use Rattle.std.specs.Prelude.{ℕ, ◌<◌, ◌≡◌, List, get_or, Some, None}
use Rattle.show.specs.Limits.{Between, ShowWithin}
use Rattle.theory.specs.Counts.{Good}
use Rattle.theory.specs.Shows.{load_of}
use Rattle.verdict.specs.Answers.{set_of}
use Rattle.state.specs.State.{StateSound}
use Rattle.run.specs.declared.Run.{Run}
use Rattle.run.specs.Run.{playing, clip_at, state_at, seat_at, whole_at, RoomAt, PutAt}

-- P, G and C of each session
abbrev pub StatesSound : Run → Type 0
StatesSound r = (i : ℕ) → i < playing r → StateSound r.started (clip_at r i) (state_at r i)

-- One place of the first n names session i, and no other does.
pub record NamedOnce (order : List ℕ) (n i : ℕ) : Type 0 where
  pub place : ℕ
  pub inside : place < n
  pub names : get_or order place 0 ≡ i
  pub only : (k : ℕ) → k < n → get_or order k 0 ≡ i → k ≡ place

-- The order names each session once.
abbrev pub NamesEach : List ℕ → ℕ → Type 0
NamesEach order n = (i : ℕ) → i < n → NamedOnce order n i

-- The cycle's place is one of its places, and of the count there 1 to M is left.
pub record Turning (r : Run) : Type 0 where
  pub place : r.place < playing r
  pub left : Between 1 r.left (whole_at r r.place)

-- Of an empty show place and left are 0 and nothing is under way.
pub record Resting (r : Run) : Type 0 where
  pub place : r.place ≡ 0
  pub left : r.left ≡ 0
  pub underway : r.underway ≡ None

-- A read may be under way on the session at the place, with room for it, and not past P's limit.
pub record MayRead (r : Run) (i : ℕ) : Type 0 where
  pub seat : i ≡ seat_at r r.place
  pub room : RoomAt r i
  pub put : PutAt r i

-- Where the cycle is.
pub record CycleSound (r : Run) : Type 0 where
  pub empty : playing r ≡ 0 → Resting r
  pub turning : 0 < playing r → Turning r
  pub underway : (i : ℕ) → r.underway ≡ Some i → MayRead r i

-- A run record is damaged exactly if one of these fails.
pub record SoundRun (r : Run) : Type 0 where
  pub within : ShowWithin r.show
  pub counts : Good (load_of r.show) (set_of r.counts)
  pub states : StatesSound r
  pub order : NamesEach r.order (playing r)
  pub cycle : CycleSound r
