-- The order of refusals of the calls on a run. Assumes nothing.
use Rattle.std.specs.Prelude.{Some, None, Option, ℤ}
use Prim.Native.Nat.{ℕ, ◌-◌, ◌≤◌, ◌<◌}
use mathlib.Core.Path.{◌≡◌, refl, sym, subst}
use mathlib.Core.Bool.{Bool, true, false}
use native.Mathlib.Decide.{dec_lt, ℕ_discrete}
use native.Mathlib.Omega.{arith}
use lib.IntN.{pos}
use lib.Signed.{◌<ℤ◌}
use Rattle.show.specs.declared.Session.{Session}
use Rattle.show.specs.declared.refusal.Refusal.TheVariants as refusal
use Rattle.show.specs.Checks.{unless, first}
use Rattle.state.specs.declared.State.{State}
use Rattle.run.specs.declared.Run.{Run}
use Rattle.run.specs.Run.{span_most, playing, state_at, seat_at, onward, PutAt}
use Rattle.state.specs.Decisions.{state?, true?, false?}
use Rattle.run.specs.Decisions.{sound?, put?, sound_check}
use Rattle.run.specs.Answers.{present_check, free_check}
use Rattle.run.specs.Steps.{skipped, passed, drawn_at}
use Rattle.run.proofs.Answered.{moved_check}
use Rattle.state.proofs.States.{true_false}
use Rattle.run.proofs.Steps.{nothing_read, ite_either}
use Rattle.run.proofs.Searches.{skipped_room, skipped_before}
use Rattle.player.specs.Answers.{early_check, held_check}
use Rattle.player.specs.Answers as player
use Rattle.player.proofs.Laws.{take_answers}
use Rattle.playback.specs.Answers.{span_check, pass_check, pass_of, take_check, take_of, busy_check, finish_check, finish_of, landed_for}
use Rattle.scheduler.specs.declared.Chosen.{Chosen}
use Rattle.scheduler.specs.Answers.{next_of, arrived, choose_check, choose_of, choice_outcome}
use Rattle.standing.specs.declared.Standing.{Standing}
use Rattle.workahead.specs.Times.{ahead_by_state}
use Rattle.standing.specs.Times.{slack_time, ahead_at}
use Rattle.standing.specs.Standing.{standing_slack}
use Rattle.workahead.specs.Decisions.{countable?}
use Rattle.standing.specs.Decisions.{fit?}
use Rattle.workahead.specs.Answers.{plays_check, countable_check, ahead_for}
use Rattle.standing.specs.Answers.{fit_check, someone_check, slack_for}
use Rattle.standing.proofs.Laws.{stood_check}
use Rattle.spare.specs.Times.{running}
use Rattle.spare.specs.Answers.{workahead_of, slack_of, some_check, slack_check, start_check, start_of}
use Rattle.theory.specs.Slack.{less?}
use Rattle.promises.specs.Order.{Grants, ◌when◌else◌, Damaged, TooMuch, TooLong, ComesTo, PastLimit, OfRuns}
use Rattle.promises.proofs.Tells.{Tests, clear, faulty, unless_tests, unless_fails, below_tests, most_tests, tells_last, tells_then}
use Rattle.promises.proofs.Tells.{outcome_by, test_outcome_is, timed_outcome, spared_outcome, chosen_outcome}

-- ---- tests of a run

module _ (r : Run) where
  sound_tests : Tests (Damaged r) refusal.Damaged (sound_check r)
  sound_tests = unless_fails (sound? r)

  session_tests : (i : ℕ) → Tests (playing r ≤ i) refusal.NoSession (present_check r i)
  session_tests i = below_tests i (playing r)

  some_tests : Tests (playing r ≡ 0) refusal.NoSession (some_check r)
  some_tests = unless_tests (dec_lt 0 (playing r)) (λ b h. let f : ⊥ = omega arith in f) (λ n. omega arith)

rate_tests : (x : Session) → Tests (x.rate ≡ 0) (refusal.SessionLimits 0) (plays_check x)
rate_tests x = unless_tests (dec_lt 0 x.rate) (λ b h. let f : ⊥ = omega arith in f) (λ n. omega arith)

someone_tests : (s : Standing) → Tests (s.playing ≡ 0) refusal.NoSession (someone_check s)
someone_tests s = unless_tests (dec_lt 0 s.playing) (λ b h. let f : ⊥ = omega arith in f) (λ n. omega arith)

span_tests : (d : ℕ) → Tests (TooLong d) refusal.TooLong (span_check d)
span_tests d = most_tests d span_most

held_tests : (s : State) (n : ℕ) → Tests (TooMuch s n) refusal.TooMuch (held_check s n)
held_tests s n = most_tests n (s.put - s.taken)

early_tests : (b : Bool) → Tests (b ≡ false) refusal.NotStarted (early_check b)
unfolding true?
early_tests true = clear (λ e. true_false e)
early_tests false = faulty refl

once_tests : (b : Bool) → Tests (b ≡ true) refusal.AlreadyStarted (unless (false? b) refusal.AlreadyStarted)
unfolding false?
once_tests true = faulty refl
once_tests false = clear (λ e. true_false (sym e))

free_tests : (u : (Option ℕ)) → Tests ((i : ℕ) × (u ≡ Some i)) refusal.ReadUnderway (free_check u)
free_tests None = clear (λ h. nothing_read h.1)
free_tests (Some i) = faulty (i, refl)

busy_tests : (u : (Option ℕ)) → Tests (u ≡ None) refusal.NothingUnderway (busy_check u)
busy_tests None = faulty refl
busy_tests (Some i) = clear (λ e. nothing_read (sym e))

slack_tests : (r : Run) → Tests (slack_time r <ℤ pos 0) refusal.NegativeSlack (slack_check r)
unfolding slack_check
slack_tests r = ite_either (Tests (slack_time r <ℤ pos 0) refusal.NegativeSlack) (less? (slack_time r) (pos 0)) _ _ faulty clear

-- ---- choose

module _ (r : Run) where
  comes : skipped r < playing r → ComesTo r (skipped r)
  comes l = record { inside = l; room = skipped_room r l; before = skipped_before r }

  comes_once : (k : ℕ) → ComesTo r k → k ≡ skipped r
  comes_once k c = from (dec_lt k (skipped r)) (dec_lt (skipped r) k)
    where
      from : Dec (k < skipped r) → Dec (skipped r < k) → k ≡ skipped r
      from (yes l) e = absurd (skipped_before r k l c.room)
      from (no l) (yes m) = absurd (c.before (skipped r) m (skipped_room r (let i = c.inside in omega arith)))
      from (no l) (no m) = omega arith

  next_tells : (14 when PastLimit r else Grants) (choice_outcome (next_of r).choice)
  unfolding next_of arrived
  next_tells =
      let P : Chosen → Type 0 = λ c. (14 when PastLimit r else Grants) (choice_outcome c.choice) in
      ite_either P (ℕ_discrete (playing r) 0) _ _
      (λ z. record { present = λ b. absurd (let i = b.1.0.inside in let f : ⊥ = omega arith in f); absent = λ c. refl })
      (λ z.
      ite_either P (dec_lt (skipped r) (playing r)) _ _
      (λ g.
      ite_either P (put? r (seat_at r (onward r (skipped r)))) _ _
      (λ p.
      record {
        present = λ b. absurd (b.1.1 (subst (λ (k : ℕ). PutAt r (seat_at r (onward r k))) (sym (comes_once b.0 b.1.0)) p));
        absent = λ c. refl;
      })
      (λ p. record { present = λ b. refl; absent = λ c. absurd (c (skipped r, (comes g, p))) }))
      (λ g.
      record {
        present = λ b. absurd (let i = b.1.0.inside in let e = comes_once b.0 b.1.0 in let f : ⊥ = omega arith in f);
        absent = λ c. refl;
      }))

-- ---- each call

pub order_of_runs : OfRuns
unfolding pass_of pass_check take_of take_check finish_of finish_check player.take_check choose_of choose_check ahead_for slack_for workahead_of slack_of start_of start_check
order_of_runs =
    record {
      test_run = λ r. rw (test_outcome_is (sound? r)) (tells_last _ (sound_tests r) refl (λ e. refl));
      pass = λ r d.
          rw (outcome_by (moved_check (pass_check r d) r (passed r d)))
          (tells_then _ _ (sound_tests r) refl (λ e. tells_last _ (span_tests d) refl (λ e. refl)));
      take = λ r i n.
          rw (outcome_by (moved_check (take_check r i n) r (drawn_at r i n)))
          (tells_then _ _ (sound_tests r) refl
          (λ e.
          tells_then _ _ (session_tests r i) refl
          (λ e. tells_then _ _ (early_tests r.started) refl (λ e. tells_last _ (held_tests (state_at r i) n) refl (λ e. refl)))));
      player = λ s x b n.
          rw (outcome_by (take_answers s x b n))
          (tells_then _ _ (unless_fails (state? b x s)) refl
          (λ e. tells_then _ _ (early_tests b) refl (λ e. tells_last _ (held_tests s n) refl (λ e. refl))));
      finish = λ r d.
          rw (outcome_by (moved_check (finish_check r d) r (landed_for r.underway (passed r d))))
          (tells_then _ _ (sound_tests r) refl
          (λ e. tells_then _ _ (span_tests d) refl (λ e. tells_last _ (busy_tests r.underway) refl (λ e. refl))));
      choose = λ r.
          rw (chosen_outcome (choose_check r) r)
          (tells_then _ _ (sound_tests r) refl (λ e. tells_last _ (free_tests r.underway) refl (λ e. next_tells r)));
      ahead_of = λ x s.
          rw (timed_outcome (first (plays_check x) (countable_check s)) (ahead_by_state x s))
          (tells_then _ _ (rate_tests x) refl (λ e. tells_last _ (unless_fails (countable? s)) refl (λ e. refl)));
      stand = λ r. rw (outcome_by (stood_check r)) (tells_last _ (sound_tests r) refl (λ e. refl));
      slack_in = λ s.
          rw (timed_outcome (first (fit_check s) (someone_check s)) (standing_slack s))
          (tells_then _ _ (unless_fails (fit? s)) refl (λ e. tells_last _ (someone_tests s) refl (λ e. refl)));
      workahead = λ r i.
          rw (spared_outcome (first (sound_check r) (present_check r i)) (ahead_at r i) r)
          (tells_then _ _ (sound_tests r) refl (λ e. tells_last _ (session_tests r i) refl (λ e. refl)));
      slack = λ r.
          rw (spared_outcome (first (sound_check r) (some_check r)) (slack_time r) r)
          (tells_then _ _ (sound_tests r) refl (λ e. tells_last _ (some_tests r) refl (λ e. refl)));
      start = λ r.
          rw (outcome_by (moved_check (start_check r) r (running r)))
          (tells_then _ _ (sound_tests r) refl
          (λ e.
          tells_then _ _ (once_tests r.started) refl
          (λ e.
          tells_then _ _ (free_tests r.underway) refl
          (λ e. tells_then _ _ (some_tests r) refl (λ e. tells_last _ (slack_tests r) refl (λ e. refl))))));
    }
