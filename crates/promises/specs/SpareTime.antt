-- Spare time to the microsecond: docs/RULES.md, section 10. proofs/SpareTime.antt proves it.
use Rattle.std.specs.Prelude.{ℕ, ◌<◌, ◌≡◌, false, ℤ, pos, ◌-ℤ◌, ◌*ℤ◌, ◌≤ℤ◌, Ok, None}
use Rattle.show.specs.declared.Session.{Session}
use Rattle.theory.specs.Floor.{Floors}
use Rattle.theory.specs.Slack.{spare_by, Before}
use Rattle.state.specs.declared.State.{State}
use Rattle.run.specs.declared.Run.{Run}
use Rattle.run.specs.Run.{playing, state_at, clip_at, count_at, seat_at}
use Rattle.run.specs.Sound.{SoundRun, NamesEach}
use Rattle.standing.specs.declared.Standing.{Standing}
use Rattle.standing.specs.Times.{ahead_at, time_at, place_at}
use Rattle.standing.specs.Standing.{spare_in}
use Rattle.workahead.specs.Answers.{ahead_for}
use Rattle.standing.specs.Answers.{stood_of, slack_for}
use Rattle.spare.specs.Answers.{workahead_of, slack_of, start_of}
use Rattle.spare.specs.Laws.{Started}
use Rattle.promises.specs.Runs.{Sized}

-- (P - Y) x 1,000,000 - C
abbrev pub lead_of : Session → State → ℤ
lead_of x s = (pos s.put -ℤ pos x.cushion) *ℤ pos 1000000 -ℤ pos s.clock

abbrev pub lead_at : Run → ℕ → ℤ
lead_at r i = lead_of (clip_at r i) (state_at r i)

-- z is the least of f 0, .., f (n - 1).
pub record LeastOf (f : ℕ → ℤ) (n : ℕ) (z : ℤ) : Type 0 where
  pub below : (k : ℕ) → k < n → z ≤ℤ f k
  pub at : ℕ
  pub inside : at < n
  pub is : z ≡ f at

-- A cycle at its first session, whose whole count is left, with nothing under way.
pub record AtFirst (q : Run) : Type 0 where
  pub place : q.place ≡ 0
  pub left : q.left ≡ count_at q (seat_at q 0)
  pub underway : q.underway ≡ None

pub record SpareTime : Type 0 where
  -- Workahead is ((P - Y) x 1,000,000 - C) / R, rounded down, also below zero.
  pub workahead : (r : Run) (i : ℕ) (z : ℤ) → (workahead_of r i).spare ≡ Ok z → Floors (lead_at r i) (clip_at r i).rate z
  pub ahead_of : (x : Session) (s : State) (z : ℤ) → ahead_for x s ≡ Ok z → Floors (lead_of x s) x.rate z
  -- Each session has its workahead minus the sum of U(M) up to and including its own, in increasing workahead; slack is the least of these.
  pub slack :
      (r : Run) (z : ℤ) → (slack_of r).spare ≡ Ok z → LeastOf (spare_by (place_at r) (ahead_at r) (time_at r) (playing r)) (playing r) z
  -- The same in any order, each session at its place; and a sound run stands in that order.
  pub slack_in : (s : Standing) (z : ℤ) → slack_for s ≡ Ok z → LeastOf (spare_in s) s.playing z
  pub stand : (r : Run) → SoundRun r → slack_for (stood_of r).standing ≡ (slack_of r).spare
  -- Start needs slack of 0 or more; not started, with nothing under way, it needs no more than that.
  pub granted : (r : Run) (z : ℤ) → (slack_of r).spare ≡ Ok z → (start_of r).check ≡ Ok tt → pos 0 ≤ℤ z
  pub grants :
      (r : Run) (z : ℤ) → (slack_of r).spare ≡ Ok z → r.started ≡ false → r.underway ≡ None → pos 0 ≤ℤ z → (start_of r).check ≡ Ok tt
  -- The cycle then names each session once, in increasing workahead, ties by lower number.
  pub names : (r : Run) → Sized r → (start_of r).check ≡ Ok tt → NamesEach (start_of r).run.order (playing r)
  pub order :
      (r : Run) → Sized r → (start_of r).check ≡ Ok tt → (j k : ℕ) → j < k → k < playing r →
      Before (ahead_at r) (seat_at (start_of r).run j) (seat_at (start_of r).run k)
  -- It is at the first session that it names, with its whole count left; the show, the counts and every state are as they were.
  pub first : (r : Run) → (start_of r).check ≡ Ok tt → AtFirst (start_of r).run
  pub kept : (r : Run) → (start_of r).check ≡ Ok tt → Started r (start_of r).run
