-- The laws of a run, over every call that there is: docs/RULES.md, sections 9 and 10. proofs/Runs.antt proves them.
use Rattle.std.specs.Prelude.{ℕ, ◌≤◌, ◌<◌, ◌≡◌, Bool, true, false, ℤ, length, ◌≤ℤ◌, Ok, Err, None}
use Rattle.show.specs.declared.Session.{Session}
use Rattle.show.specs.declared.Show.{Show}
use Rattle.show.specs.declared.refusal.Refusal.{Refusal}
use Rattle.show.specs.declared.refusal.Refusal.TheVariants.{Damaged}
use Rattle.theory.specs.Slack.{slack_by}
use Rattle.state.specs.declared.State.{State}
use Rattle.run.specs.declared.Run.{Run}
use Rattle.run.specs.declared.Opened.{Opened}
use Rattle.run.specs.Run.{playing, state_at, clip_at, seat_at}
use Rattle.state.specs.State.{StateSound}
use Rattle.run.specs.Sound.{SoundRun}
use Rattle.run.specs.Opening.{OpenIs}
use Rattle.run.specs.Laws.{Kept, Ahead}
use Rattle.player.specs.Answers.{drawn_of}
use Rattle.playback.specs.Answers.{pass_of, take_of, finish_of}
use Rattle.scheduler.specs.declared.Choice.TheVariants as choice
use Rattle.scheduler.specs.Answers.{choose_of}
use Rattle.standing.specs.Times.{ahead_at, time_at}
use Rattle.spare.specs.Answers.{workahead_of, slack_of, start_of}

-- a run as a program holds it
pub record Sized (r : Run) : Type 0 where
  pub states : length r.states ≡ 16
  pub order : length r.order ≡ 16

-- The run after one call, granted or refused.
pub data After (r : Run) : Run → Type 0 where
  pass : (d : ℕ) → After r (pass_of r d).run
  take : (i n : ℕ) → After r (take_of r i n).run
  choose : After r (choose_of r).run
  finish : (d : ℕ) → After r (finish_of r d).run
  workahead : (i : ℕ) → After r (workahead_of r i).run
  slack : After r (slack_of r).run
  start : After r (start_of r).run

-- The runs of a show: it is opened, and calls follow, any calls in any order.
pub data RunOf (s : Show) : Run → Type 0 where
  opened : (o : Opened) → OpenIs s o → o.check ≡ Ok tt → RunOf s o.run
  called : (r q : Run) → RunOf s r → After r q → RunOf s q

-- After a refusal the run is what it was, and so is a state that was lent; workahead and slack change nothing at all.
pub record HandsBack : Type 0 where
  pub pass : (r : Run) (d : ℕ) (w : Refusal) → (pass_of r d).check ≡ Err w → (pass_of r d).run ≡ r
  pub take : (r : Run) (i n : ℕ) (w : Refusal) → (take_of r i n).check ≡ Err w → (take_of r i n).run ≡ r
  pub choose : (r : Run) (w : Refusal) → (choose_of r).choice ≡ choice.Refused w → (choose_of r).run ≡ r
  pub finish : (r : Run) (d : ℕ) (w : Refusal) → (finish_of r d).check ≡ Err w → (finish_of r d).run ≡ r
  pub start : (r : Run) (w : Refusal) → (start_of r).check ≡ Err w → (start_of r).run ≡ r
  pub workahead : (r : Run) (i : ℕ) → (workahead_of r i).run ≡ r
  pub slack : (r : Run) → (slack_of r).run ≡ r
  pub player :
      (s : State) (x : Session) (b : Bool) (n : ℕ) (w : Refusal) → (drawn_of s x b n).check ≡ Err w → (drawn_of s x b n).state ≡ s

-- A damaged run: every call says 19 and hands it back.
pub record Stays (r : Run) : Type 0 where
  pub pass : (d : ℕ) → pass_of r d ≡ record { check = Err Damaged; run = r }
  pub take : (i n : ℕ) → take_of r i n ≡ record { check = Err Damaged; run = r }
  pub choose : choose_of r ≡ record { choice = choice.Refused Damaged; run = r }
  pub finish : (d : ℕ) → finish_of r d ≡ record { check = Err Damaged; run = r }
  pub workahead : (i : ℕ) → workahead_of r i ≡ record { spare = Err Damaged; run = r }
  pub slack : slack_of r ≡ record { spare = Err Damaged; run = r }
  pub start : start_of r ≡ record { check = Err Damaged; run = r }

-- q is r but for what plays: the show, the counts, and every unused place are as they were.
pub record Unused (r q : Run) : Type 0 where
  pub show : q.show ≡ r.show
  pub counts : q.counts ≡ r.counts
  pub states : (i : ℕ) → playing r ≤ i → state_at q i ≡ state_at r i
  pub order : (k : ℕ) → playing r ≤ k → seat_at q k ≡ seat_at r k

pub record Runs : Type 0 where
  -- An opened run is sound, and is of the show as it was given.
  pub opened_sound : (s : Show) (o : Opened) → OpenIs s o → o.check ≡ Ok tt → SoundRun o.run
  pub opened_show : (s : Show) (o : Opened) → OpenIs s o → o.check ≡ Ok tt → o.run.show ≡ s
  -- A call on a sound run makes a sound run; so every run of a show is sound, and of that show.
  pub after_sound : (r q : Run) → Sized r → SoundRun r → After r q → SoundRun q
  pub always_sound : (s : Show) (r : Run) → RunOf s r → SoundRun r × (r.show ≡ s)
  -- A refused call gives the run it was given; a damaged run is refused by every call.
  pub refused : HandsBack
  pub damaged_stays : (r : Run) → (SoundRun r → ⊥) → Stays r
  -- A take on a session of a sound run is the player's take on its state.
  pub player_agrees :
      (r : Run) (i n : ℕ) → SoundRun r → i < playing r → (take_of r i n).check ≡ (drawn_of (state_at r i) (clip_at r i) r.started n).check
  pub player_sound :
      (s : State) (x : Session) (b : Bool) (n : ℕ) → (drawn_of s x b n).check ≡ Ok tt → StateSound true x (drawn_of s x b n).state
  -- Unused places never change.
  pub after_unused : (r q : Run) → Sized r → After r q → Unused r q
  -- None but start changes the order or whether a run has started.
  pub pass_kept : (r : Run) (d : ℕ) → Kept r (pass_of r d).run
  pub take_kept : (r : Run) (i n : ℕ) → Kept r (take_of r i n).run
  pub choose_kept : (r : Run) → Kept r (choose_of r).run
  pub finish_kept : (r : Run) (d : ℕ) → Sized r → Kept r (finish_of r d).run
  -- Once started, a run stays started, and its cycle stays in the order of the start.
  pub order_fixed : (r q : Run) → Sized r → After r q → r.started ≡ true → (q.started ≡ true) × (q.order ≡ r.order)
  -- No order gives more slack.
  pub no_order_more : (r : Run) (place : ℕ → ℕ) (z : ℤ) → (slack_of r).spare ≡ Ok z → slack_by place (ahead_at r) (time_at r) (playing r) ≤ℤ z
  -- Loaded until Idle, every session has a workahead above L, and the start is granted.
  pub idle_ahead : (r : Run) → SoundRun r → (choose_of r).choice ≡ choice.Idle → (i : ℕ) → i < playing r → Ahead r i
  pub idle_starts :
      (r : Run) → SoundRun r → 0 < playing r → r.started ≡ false → (choose_of r).choice ≡ choice.Idle →
      (start_of (choose_of r).run).check ≡ Ok tt
