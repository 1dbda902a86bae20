-- Wrong answers that the contracts rule out, of the calls on a run: each is computed on a run of specs/RuledOutOfRuns, or cites a law. Assumes nothing.
use Rattle.std.specs.Prelude.{Ok, Err, Some, None, Result, Option, ℤ}
use Prim.Native.Nat.{ℕ, ◌+◌, ◌*◌}
use mathlib.Core.Path.{◌≡◌, refl, sym, ap, ◌∙◌}
use mathlib.Core.Bool.{true, false}
use mathlib.Core.List.{List, [], ◌∷◌}
use mathlib.Core.Logic.Dec
use native.Mathlib.Omega.{arith}
use native.Mathlib.Decide.{dec_lt, dec_le, ℕ_discrete}
use lib.Dec.{ltb→lt}
use lib.IntN.{pos, negsuc}
use lib.ListN.{get_or, replicate}
use Rattle.show.specs.declared.refusal.Refusal.{Refusal}
use Rattle.show.specs.Limits.{no_session}
use Rattle.show.specs.Refusals.{number_of}
use Rattle.show.specs.Outcomes.{check_outcome}
use Rattle.show.specs.Decisions.{between?, counts?, drive?, layout?, session?}
use Rattle.show.specs.Lists.{listed, padded}
use Rattle.cost.specs.Bound.{worst_time, edges, ceil}
use Rattle.cost.specs.Costs.{cost_of}
use Rattle.theory.specs.Sum.{sum_to}
use Rattle.theory.specs.Floor.{floor_z}
use Rattle.theory.specs.Slack.{less?, least_to, slack_by, same?, before?, rank}
use Rattle.state.specs.declared.State.{State}
use Rattle.run.specs.declared.Run.{Run}
use Rattle.run.specs.declared.Opened.{Opened}
use Rattle.run.specs.declared.Moved.{Moved}
use Rattle.run.specs.Run.{state_at, seat_at, left_in}
use Rattle.run.specs.Sound.{SoundRun}
use Rattle.run.specs.Opening.{first_run}
use Rattle.state.specs.Decisions.{false?, true?, waiting?, state?}
use Rattle.run.specs.Decisions.{below?, some?, show?, good?, named?, nothing?, room?, put?, may_read?, underway?, cycle?, sound?}
use Rattle.run.specs.Steps.{changed, passed, first_from, skipped, begun, counted, landed}
use Rattle.run.proofs.Opening.{open_once}
use Rattle.run_test.proofs.Tests.{tested_sound}
use Rattle.player.specs.declared.Drawn.{Drawn}
use Rattle.player.specs.Answers.{take_check, drawn_of}
use Rattle.playback.proofs.Calls.{finish_nothing, finish_granted}
use Rattle.scheduler.specs.declared.Choice.{Choice}
use Rattle.scheduler.specs.declared.Choice.TheVariants as choice
use Rattle.scheduler.specs.declared.Chosen.{Chosen}
use Rattle.scheduler.specs.Answers.{arrived, arrived_past, choose_of}
use Rattle.scheduler.proofs.Calls.{choose_next}
use Rattle.order.specs.Order.{named, place_in}
use Rattle.workahead.specs.Answers.{spare_outcome}
use Rattle.order.proofs.Orders.{ordered_few, placed_few}
use Rattle.workahead.proofs.Calls.{ahead_time}
use Rattle.standing.proofs.Calls.{stood_sound}
use Rattle.spare.specs.declared.Spared.{Spared}
use Rattle.spare.specs.Times.{running}
use Rattle.spare.proofs.Calls.{start_begins, begin_granted}
use Rattle.promises.specs.Numbers.{X, clip, show_of, places, loaded, eighth, eighth_by, clocked}
use Rattle.promises.specs.RuledOutOfRuns.{eighth_at, level, crowded, worn, OfRun, OfRunTest, OfPlayer, OfPlayback, OfScheduler, OfStanding, OfSpare}
use Rattle.promises.proofs.Apart.{apart, other, outcome_number, check_number}
use Rattle.promises.proofs.Table.{table}
use Rattle.promises.proofs.Worked.{told, from_told, eighth_sound, clocked_first}
use Rattle.promises.proofs.Order.{order}
use Rattle.promises.proofs.SpareTime.{spare_time}

-- ---- the runs are sound

record Sounds : Type 0 where
  last : SoundRun (eighth_at 2 1 (Some 2))
  begun : SoundRun (eighth_at 0 1 None)
  full : SoundRun crowded
  most : SoundRun worn
  even : SoundRun level

sounds : Sounds
unfolding told sound? show? good? below? state? named? some? cycle? false? true? waiting? nothing? room? put? may_read? underway? counts? drive?
    layout? session? between? sum_to cost_of worst_time edges ceil listed dec_le dec_lt ℕ_discrete Dec.and
sounds =
    record {
      last = from_told (sound? (eighth_at 2 1 (Some 2))) tt;
      begun = from_told (sound? (eighth_at 0 1 None)) tt;
      full = from_told (sound? crowded) tt;
      most = from_told (sound? worn) tt;
      even = from_told (sound? level) tt;
    }

-- ---- a run and its test

pub of_run : OfRun
unfolding first_run left_in listed padded
of_run =
    record {
      full_buffer_is_damage = λ n.
          n (record { put = omega arith; taken = omega arith; held = omega arith; clock = omega arith; early = λ e. absurd (started e) });
      room_without_the_block = λ h. (let f : ⊥ = omega arith in f);
      left_as_it_was = λ e. other e tt;
      one_used_up = λ e. other e tt;
      order_past_the_last = λ o h e.
          other
          (sym
          (ap (λ (x : Opened). seat_at x.run 0)
          (open_once (show_of X (replicate 3 clip)) o _ h (record { decision = _; decides = table.p3.twice; answers = refl })))
          ∙ e)
          tt;
    }
  where
    started : true ≡ false → ⊥
    started e = let z : ◌≡◌ {A = ℕ} 0 1 = cc in let f : ⊥ = omega arith in f

pub of_run_test : OfRunTest
of_run_test =
    record {
      nothing_left_is_sound = λ e.
          (let h = ((tested_sound (eighth_at 0 0 None) _ refl e).cycle.turning (omega arith)).left.low in let f : ⊥ = omega arith in f);
    }

-- ---- a player

pub of_player : OfPlayer
unfolding drawn_of take_check state? true? false? waiting? dec_le ℕ_discrete Dec.and
of_player =
    record {
      all_is_too_much = λ e. apart check_number e tt;
      early_told_as_too_much = λ e. apart check_number e tt;
      clock_moves = λ e. other e tt;
      lent_left_as_it_was = λ after a e. apart (λ (s : State). s.taken) (sym a ∙ e) tt;
      answered_of_the_state_after = λ c after g a e.
          apart check_number (sym g ∙ e ∙ ap (λ (s : State). (drawn_of s clip true 1).check) a) tt;
      nothing_taken = λ e. apart (λ (d : Drawn). d.state.taken) e tt;
      taken_once_more = λ e. apart (λ (d : Drawn). check_number d.check) e tt;
    }

-- ---- what goes on in a run

pub of_playback : OfPlayback
unfolding passed changed counted landed listed dec_le
of_playback =
    record {
      clock_passes_its_bytes = λ e. apart (λ (r : Run). (state_at r 0).clock) (sym (ap (λ (m : Moved). m.run) table.p10.two) ∙ e) tt;
      damaged_granted = λ e.
          apart outcome_number
          (sym
          ((order.runs.pass (eighth_at 0 0 None) 0).present
          (λ s. let h = (s.cycle.turning (omega arith)).left.low in let f : ⊥ = omega arith in f))
          ∙ ap check_outcome e)
          tt;
      granted_before_the_start = λ e.
          apart outcome_number
          (sym ((((order.runs.take eighth 0 1).absent (λ n. n eighth_sound)).absent (λ l. let f : ⊥ = omega arith in f)).present refl) ∙ ap check_outcome e)
          tt;
      twelve_before_nine = λ e.
          apart outcome_number (sym (((order.runs.take eighth 3 0).absent (λ n. n eighth_sound)).present (omega arith)) ∙ ap check_outcome e) tt;
      does_not_wrap = λ e.
          other
          (ap (λ (m : Moved). m.run.place)
          (finish_granted (eighth_at 2 1 (Some 2)) 0 sounds.last (omega arith) 2 _ _ refl refl refl)
          ∙ e)
          tt;
      refused_lets_time_pass = λ e.
          apart (λ (r : Run). (state_at r 0).clock)
          (ap (λ (m : Moved). m.run) (finish_nothing (clocked 0) 1 clocked_first (omega arith) refl) ∙ e
          ∙ ap (λ (m : Moved). m.run) table.p10.one)
          tt;
    }

-- ---- the next read

-- one more than the session that is chosen, 0 for Idle
abbrev choosing : Choice → ℕ
choosing choice.Idle = 0
choosing (choice.Read i) = 1 + i
choosing (choice.Refused w) = 100 + number_of w

-- one more than the session that is read, 0 for none
abbrev reading : Option ℕ → ℕ
reading None = 0
reading (Some i) = 1 + i

pub of_scheduler : OfScheduler
unfolding arrived skipped first_from begun left_in room? put? dec_le dec_lt listed
of_scheduler =
    record {
      idle_for_one = λ e. apart choosing (ap (λ (c : Chosen). c.choice) second ∙ e) tt;
      left_kept_after_a_skip = λ e. other (ap (λ (c : Chosen). c.run.left) second ∙ e) tt;
      whole_without_a_skip = λ e.
          other
          (ap (λ (c : Chosen). c.run.left)
          (choose_next (eighth_at 0 1 None) sounds.begun refl (λ z. let f : ⊥ = omega arith in f) _ (ltb→lt _ _ tt) refl)
          ∙ e)
          tt;
      advanced_at_the_limit = λ e.
          apart reading
          (ap (λ (c : Chosen). c.run.underway) (choose_next worn sounds.most refl (λ z. let f : ⊥ = omega arith in f) _ (ltb→lt _ _ tt) refl) ∙ e)
          tt;
      ahead_whenever_asked = λ always. (let h = always crowded 1 (sym (ap (λ (c : Chosen). c.choice) second)) in let f : ⊥ = omega arith in f);
    }
  where
    -- of the crowded run the second is chosen
    second : arrived_past crowded (skipped crowded) ≡ choose_of crowded
    second = choose_next crowded sounds.full refl (λ z. let f : ⊥ = omega arith in f) _ (ltb→lt _ _ tt) refl

-- ---- spare time

-- the size of a time, and that it is below zero
abbrev sparing : Result ℤ Refusal → ℕ
sparing (Ok (pos n)) = 2 * n
sparing (Ok (negsuc n)) = 2 * n + 1
sparing (Err w) = 0

pub of_standing : OfStanding
unfolding floor_z named before? rank less? same? ℕ_discrete sum_to listed padded dec_le dec_lt
of_standing =
    record {
      cushion_added = λ e.
          apart sparing (ahead_time clip (record { put = 1; taken = 1; clock = 1 }) (omega arith) (negsuc 0) (omega arith, omega arith) refl ∙ e) tt;
      no_rate_is_damage = λ e. apart outcome_number (sym ((order.runs.ahead_of no_session (loaded 1)).present refl) ∙ ap spare_outcome e) tt;
      below_counted_from_minus_one = λ e. other e tt;
      damage_unseen = λ e.
          (let h = ((stood_sound (eighth_at 0 0 None) _ refl e).cycle.turning (omega arith)).left.low in let f : ⊥ = omega arith in f);
      order_unseen = λ e. apart sparing (sym table.p8.given ∙ e) tt;
      place_shared = λ z e.
          apart outcome_number
          (sym
          ((order.runs.slack_in (eighth_by (0 ∷ 1 ∷ 1 ∷ []))).present
          (λ f. let h = f.apart 1 2 (omega arith) (omega arith) refl in let g : ⊥ = omega arith in g))
          ∙ ap spare_outcome e)
          tt;
      tied_share_a_place = λ e.
          other (ap (λ (l : List ℕ). place_in l 1) (sym (placed_few (replicate 16 (pos 0)) 2 (omega arith))) ∙ e) tt;
      cleared_above = λ e.
          other (ap (λ (l : List ℕ). place_in l 2) (sym (ordered_few (places (1 ∷ 0 ∷ [])) 2 (replicate 16 9) (omega arith))) ∙ e) tt;
    }

pub of_spare : OfSpare
unfolding floor_z least_to slack_by before? rank less? same? ℕ_discrete sum_to cost_of worst_time edges ceil listed dec_le dec_lt named running
of_spare =
    record {
      cushion_added = λ e. apart sparing (sym (ap (λ (s : Spared). s.spare) table.p9.behind) ∙ e) tt;
      own_time_left_out = λ e. apart sparing (sym (ap (λ (s : Spared). s.spare) table.p8.slack) ∙ e) tt;
      slack_above_zero = λ e. apart check_number (sym table.p8.start ∙ e) tt;
      started_twice = λ e.
          apart outcome_number (sym (((order.runs.start (clocked 0)).absent (λ n. n clocked_first)).present refl) ∙ ap check_outcome e) tt;
      says_seventeen = λ e.
          apart outcome_number (sym (((order.runs.start (clocked 0)).absent (λ n. n clocked_first)).present refl) ∙ ap check_outcome e) tt;
      decreasing_workahead = λ e. apart (λ (l : List ℕ). get_or l 0 0) (sym table.p8.order ∙ e) tt;
      ties_by_higher_number = λ e.
          apart (λ (l : List ℕ). get_or l 0 0)
          (ap (λ (m : Moved). m.run.order)
          (start_begins level sounds.even refl refl _ (omega arith) (begin_granted level (running level) (λ n. absurd n.lt) refl))
          ∙ e)
          tt;
      anothers_count = λ e. other (sym table.uneven.left ∙ e) tt;
      place_kept = λ r h e. other (sym (spare_time.first r h).place ∙ e) tt;
      places_above_the_count = λ r h k l z e. other (sym z ∙ sym ((spare_time.kept r h).order k l) ∙ e) tt;
    }
