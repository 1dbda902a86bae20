-- Wrong answers that the contracts rule out, of the calls on a run: as specs/RuledOut says. proofs/RuledOutOfRuns.antt proves it.
use Rattle.std.specs.Prelude.{ℕ, ◌≤◌, ◌≡◌, true, false, [], ◌∷◌, ℤ, pos, negsuc, nat_abs, replicate, Ok, Err, Some, None, Option}
use Rattle.show.specs.Outcomes.{Check}
use Rattle.show.specs.declared.refusal.Refusal.TheVariants as refusal
use Rattle.show.specs.Limits.{Tells, no_session}
use Rattle.state.specs.declared.State.{State}
use Rattle.run.specs.declared.Run.{Run}
use Rattle.run.specs.declared.Opened.{Opened}
use Rattle.state.specs.State.{Room, put_most, StateSound}
use Rattle.run.specs.Run.{playing, seat_at, left_in, with_cycle}
use Rattle.run.specs.Opening.{OpenIs}
use Rattle.run.specs.Laws.{Ahead}
use Rattle.run_test.specs.declared.Test.TheVariants as test
use Rattle.run_test.specs.Answers.{test_of}
use Rattle.player.specs.Answers.{drawn_of}
use Rattle.playback.specs.Answers.{pass_of, take_of, finish_of}
use Rattle.scheduler.specs.declared.Choice.TheVariants as choice
use Rattle.scheduler.specs.Answers.{choose_of}
use Rattle.order.specs.Order.{place_in, placed_by, ordered_by}
use Rattle.workahead.specs.Answers.{ahead_for}
use Rattle.standing.specs.Answers.{stood_of, slack_for}
use Rattle.spare.specs.Answers.{workahead_of, slack_of, start_of}
use Rattle.promises.specs.Numbers.{X, buffered, clip, show_of, places, run_of, loaded, eighth, eighth_by, uneven, clocked}

-- one byte held
abbrev pub held : State
held = loaded 1

-- p8's run at another moment of its cycle
abbrev pub eighth_at : ℕ → ℕ → Option ℕ → Run
eighth_at place left u = with_cycle eighth place left u

-- p8's run with as much workahead for each
abbrev pub level : Run
level = run_of (show_of X (replicate 3 clip)) (replicate 3 2) (replicate 3 (loaded 79873)) false

-- Two sessions, counts 3 and 2. The first, of whose count one block is left, has no room; the second has.
abbrev pub crowded : Run
crowded = with_cycle (run_of (show_of X (buffered 204801 ∷ clip ∷ [])) (3 ∷ 2 ∷ []) (loaded 204800 ∷ loaded 0 ∷ []) false) 0 1 None

-- One session whose P is at its limit, and all of it taken.
abbrev pub worn : Run
worn = run_of (show_of X (clip ∷ [])) (1 ∷ []) (record { put = put_most; taken = put_most; clock = 0 } ∷ []) true

pub record OfRun : Type 0 where
  -- `State::within`: no to a buffer that is full
  pub full_buffer_is_damage : Tells false (StateSound true (buffered 102401) (loaded 102401)) → ⊥
  -- `State::room`: yes where what is held fits, but no block more
  pub room_without_the_block : Tells true (Room 51200 (buffered 102401) (loaded 102400)) → ⊥
  -- `Run::with_cycle`: what was left
  pub left_as_it_was : (with_cycle eighth 0 1 None).left ≡ eighth.left → ⊥
  -- `left_in`: one block of the count used up when its operation begins
  pub one_used_up : left_in (3 ∷ 2 ∷ []) (0 ∷ 1 ∷ []) 0 ≡ 2 → ⊥
  -- `open`, of p3: a cycle that begins past the last session
  pub order_past_the_last : (o : Opened) → OpenIs (show_of X (replicate 3 clip)) o → seat_at o.run 0 ≡ 3 → ⊥

pub record OfRunTest : Type 0 where
  -- `test_run`: sound with nothing left of the count
  pub nothing_left_is_sound : test_of (eighth_at 0 0 None) ≡ test.Sound → ⊥

pub record OfPlayer : Type 0 where
  -- `take_from`: all that is held is too much; before the start it is told as too much; the clock moves
  pub all_is_too_much : (drawn_of held clip true 1).check ≡ Err refusal.TooMuch → ⊥
  pub early_told_as_too_much : (drawn_of held clip false 2).check ≡ Err refusal.TooMuch → ⊥
  pub clock_moves : (drawn_of held clip true 1).state.clock ≡ 1 → ⊥
  -- `take`, on a state that is lent: it is left as it was; the answer is that of the state after
  pub lent_left_as_it_was : (after : State) → after ≡ (drawn_of held clip true 1).state → after ≡ held → ⊥
  pub answered_of_the_state_after :
      (c : Check) (after : State) → c ≡ (drawn_of held clip true 1).check → after ≡ (drawn_of held clip true 1).state →
      c ≡ (drawn_of after clip true 1).check → ⊥
  -- `take_lent`: nothing is taken; it is taken once more
  pub nothing_taken : drawn_of held clip true 1 ≡ drawn_of held clip true 0 → ⊥
  pub taken_once_more : drawn_of held clip true 1 ≡ drawn_of (drawn_of held clip true 1).state clip true 1 → ⊥

pub record OfPlayback : Type 0 where
  -- `pass`, p10: after 2 µs a clock above its G
  pub clock_passes_its_bytes : (pass_of (clocked 0) 2).run ≡ clocked 1024000 → ⊥
  -- of a damaged run, granted
  pub damaged_granted : (pass_of (eighth_at 0 0 None) 0).check ≡ Ok tt → ⊥
  -- `take`: granted before the start; 12 before 9
  pub granted_before_the_start : (take_of eighth 0 1).check ≡ Ok tt → ⊥
  pub twelve_before_nine : (take_of eighth 3 0).check ≡ Err refusal.NotStarted → ⊥
  -- `finish`: after the last session none; refused, time passes all the same
  pub does_not_wrap : (finish_of (eighth_at 2 1 (Some 2)) 0).run.place ≡ 3 → ⊥
  pub refused_lets_time_pass : (finish_of (clocked 0) 1).run ≡ (pass_of (clocked 0) 1).run → ⊥

pub record OfScheduler : Type 0 where
  -- `choose`: Idle where the place has no room, but another has; what is left is kept after a skip, or is whole again without one
  pub idle_for_one : (choose_of crowded).choice ≡ choice.Idle → ⊥
  pub left_kept_after_a_skip : (choose_of crowded).run.left ≡ 1 → ⊥
  pub whole_without_a_skip : (choose_of (eighth_at 0 1 None)).run.left ≡ 2 → ⊥
  -- at the limit on P, a read is under way all the same
  pub advanced_at_the_limit : (choose_of worn).run.underway ≡ Some 0 → ⊥
  -- a session that is to be read is more than a round ahead, as if it were Idle
  pub ahead_whenever_asked : ((r : Run) (i : ℕ) → (choose_of r).choice ≡ choice.Read i → Ahead r i) → ⊥

pub record OfStanding : Type 0 where
  -- `ahead_of`, p9: with the cushion added; of a rate of 0, damage
  pub cushion_added : ahead_for clip (record { put = 1; taken = 1; clock = 1 }) ≡ Ok (pos 3) → ⊥
  pub no_rate_is_damage : ahead_for no_session held ≡ Err refusal.Damaged → ⊥
  -- `magnitude`: of -1 none, as if it were counted from -1 down
  pub below_counted_from_minus_one : nat_abs (negsuc 0) ≡ 0 → ⊥
  -- `stand`: granted to a run that has nothing left of its count
  pub damage_unseen : (stood_of (eighth_at 0 0 None)).check ≡ Ok tt → ⊥
  -- `slack_in`, p8: in another order as much; a time where two share a place
  pub order_unseen : slack_for (eighth_by (0 ∷ 1 ∷ 2 ∷ [])) ≡ Ok (pos 0) → ⊥
  pub place_shared : (z : ℤ) → slack_for (eighth_by (0 ∷ 1 ∷ 1 ∷ [])) ≡ Ok z → ⊥
  -- `places`: two with as much share a place
  pub tied_share_a_place : place_in (placed_by (replicate 16 (pos 0)) 2) 1 ≡ 0 → ⊥
  -- `ordered`: the places above the count are cleared
  pub cleared_above : place_in (ordered_by (places (1 ∷ 0 ∷ [])) 2 (replicate 16 9)) 2 ≡ 0 → ⊥

pub record OfSpare : Type 0 where
  -- `workahead`, p9: with the cushion added
  pub cushion_added : (workahead_of (clocked 1) 0).spare ≡ Ok (pos 3) → ⊥
  -- `slack`, p8: without each session's own time
  pub own_time_left_out : (slack_of eighth).spare ≡ Ok (pos 52000) → ⊥
  -- `start`: a slack of 0 refused; granted to a run that has started; 17 for it
  pub slack_above_zero : (start_of eighth).check ≡ Err refusal.NegativeSlack → ⊥
  pub started_twice : (start_of (clocked 0)).check ≡ Ok tt → ⊥
  pub says_seventeen : (start_of (clocked 0)).check ≡ Err refusal.NothingUnderway → ⊥
  -- in decreasing workahead; ties by higher number
  pub decreasing_workahead : (start_of eighth).run.order ≡ places (0 ∷ 2 ∷ 1 ∷ []) → ⊥
  pub ties_by_higher_number : (start_of level).run.order ≡ places (2 ∷ 1 ∷ 0 ∷ []) → ⊥
  -- with the count of session 0 left, though the second is first; at the place where it was
  pub anothers_count : (start_of uneven).run.left ≡ 1 → ⊥
  pub place_kept : (r : Run) → (start_of r).check ≡ Ok tt → (start_of r).run.place ≡ 1 → ⊥
  -- a place of the order above the count is written
  pub places_above_the_count :
      (r : Run) → (start_of r).check ≡ Ok tt → (k : ℕ) → playing r ≤ k → seat_at r k ≡ 0 → seat_at (start_of r).run k ≡ 1 → ⊥
