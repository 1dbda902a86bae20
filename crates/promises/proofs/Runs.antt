-- The laws of a run, by citation. Assumes nothing.
use Rattle.std.specs.Prelude.{Ok, Err}
use Prim.Native.Nat.{ℕ, ◌≤◌, ◌<◌}
use mathlib.Core.Path.{◌≡◌, refl, sym, ap, subst, ◌∙◌}
use mathlib.Core.Bool.{true, false}
use mathlib.Core.List.{List}
use native.Mathlib.Omega.{arith}
use lib.IntN.{ℤ}
use lib.ListN.{length, get_or}
use lib.Signed.{◌≤ℤ◌}
use Rattle.show.specs.Outcomes.{Check}
use Rattle.show.specs.declared.Show.{Show}
use Rattle.theory.specs.Counts.{Smallest}
use Rattle.theory.specs.Shows.{load_of}
use Rattle.theory.specs.Slack.{slack_by}
use Rattle.verdict.specs.Answers.{set_of}
use Rattle.verdict.proofs.Sets.{row_smallest}
use Rattle.state.specs.declared.State.{State}
use Rattle.run.specs.declared.Run.{Run}
use Rattle.run.specs.declared.Opened.{Opened}
use Rattle.state.specs.State.{no_state}
use Rattle.run.specs.Run.{playing}
use Rattle.run.specs.Sound.{SoundRun}
use Rattle.run.specs.Steps.{idled}
use Rattle.run.specs.Opening.{OpenIs, first_run}
use Rattle.run.specs.Laws.{Kept}
use Rattle.state.proofs.States.{true_false}
use Rattle.run.proofs.Begins.{opened_begins, opened_sound, opened_show, table_length, first_states_length}
use Rattle.run.proofs.Rest.{same_kept}
use Rattle.run.proofs.Steps.{idled_sound}
use Rattle.player.proofs.Laws.{granted_sound, refused_back}
use Rattle.playback.proofs.Calls.{pass_damaged, take_damaged, finish_damaged}
use Rattle.playback.proofs.Laws.{pass_sound, take_sound, finish_sound, pass_kept, take_kept, finish_kept}
use Rattle.playback.proofs.Laws.{take_players, pass_refused, take_refused, finish_refused}
use Rattle.scheduler.specs.declared.Choice.TheVariants.{Idle}
use Rattle.scheduler.specs.Answers.{choose_of}
use Rattle.scheduler.proofs.Calls.{choose_damaged}
use Rattle.scheduler.proofs.Laws.{choose_sound, choose_kept, choose_refused, choose_ahead, idle_run, idle_free}
use Rattle.standing.specs.Times.{ahead_at, time_at}
use Rattle.spare.specs.Answers.{start_of}
use Rattle.spare.specs.Laws.{Started}
use Rattle.spare.proofs.Calls.{workahead_damaged, slack_damaged, start_damaged}
use Rattle.spare.proofs.Laws.{workahead_run, slack_run, slack_most, slack_told, start_sound, start_refused, start_fresh, start_granted, far_starts}
use Rattle.promises.specs.Runs.{Sized, After, pass, take, choose, finish, workahead, slack, start, RunOf, opened, called, HandsBack, Unused, Runs}

pub few : (r : Run) → Sized r → SoundRun r → playing r ≤ length r.states
few r n s = let h = s.within.counts.sessions in let k = n.states in omega arith

after_sound : (r q : Run) → Sized r → SoundRun r → After r q → SoundRun q
after_sound r q n s (pass d) = pass_sound r d (few r n s) s
after_sound r q n s (take i k) = take_sound r i k (few r n s) s
after_sound r q n s choose = choose_sound r s
after_sound r q n s (finish d) = finish_sound r d n.states s
after_sound r q n s (workahead i) = subst SoundRun (sym (workahead_run r i)) s
after_sound r q n s slack = subst SoundRun (sym (slack_run r)) s
after_sound r q n s start = start_sound r n.order s

-- ---- what a call leaves as it was

data Leaves (r q : Run) : Type 0 where
  kept : Kept r q → Leaves r q
  started : r.started ≡ false → Started r q → Leaves r q

start_leaves : (r : Run) → Leaves r (start_of r).run
start_leaves r = from (start_of r).check refl
  where
    from : (k : Check) → (start_of r).check ≡ k → Leaves r (start_of r).run
    from (Ok tt) e = started (start_fresh r e) (start_granted r e)
    from (Err w) e = kept (subst (Kept r) (sym (start_refused r w e)) (same_kept r))

after_leaves : (r q : Run) → Sized r → After r q → Leaves r q
after_leaves r q n (pass d) = kept (pass_kept r d)
after_leaves r q n (take i k) = kept (take_kept r i k)
after_leaves r q n choose = kept (choose_kept r)
after_leaves r q n (finish d) = kept (finish_kept r d n.states)
after_leaves r q n (workahead i) = kept (subst (Kept r) (sym (workahead_run r i)) (same_kept r))
after_leaves r q n slack = kept (subst (Kept r) (sym (slack_run r)) (same_kept r))
after_leaves r q n start = start_leaves r

leaves_unused : (r q : Run) → Leaves r q → Unused r q
leaves_unused r q (kept k) =
    record { show = k.show; counts = k.counts; states = k.states; order = λ i l. ap (λ (o : List ℕ). get_or o i 0) k.order }
leaves_unused r q (started f s) =
    record { show = s.show; counts = s.counts; states = λ i l. ap (λ (t : List State). get_or t i no_state) s.states; order = s.order }

leaves_sized : (r q : Run) → Sized r → Leaves r q → Sized q
leaves_sized r q n (kept k) = record { states = k.sized ∙ n.states; order = ap length k.order ∙ n.order }
leaves_sized r q n (started f s) = record { states = ap length s.states ∙ n.states; order = s.sized ∙ n.order }

leaves_order : (r q : Run) → Leaves r q → r.started ≡ true → (q.started ≡ true) × (q.order ≡ r.order)
leaves_order r q (kept k) e = (k.started ∙ e, k.order)
leaves_order r q (started f s) e = true_false (sym e ∙ f)

-- ---- every run of a show

opened_sized : (s : Show) (o : Opened) → OpenIs s o → o.check ≡ Ok tt → Sized o.run
unfolding first_run
opened_sized s o h e =
    let b = opened_begins s o h e in
    record {
      states = ap (λ (r : Run). length r.states) b.first ∙ first_states_length s b.within.counts.sessions;
      order = ap (λ (r : Run). length r.order) b.first ∙ table_length s.playing b.within.counts.sessions;
    }

opened_smallest : (s : Show) (o : Opened) → OpenIs s o → o.check ≡ Ok tt → Smallest (load_of s) (set_of o.run.counts)
unfolding first_run
opened_smallest s o h e =
    let b = opened_begins s o h e in
    subst (λ (r : Run). Smallest (load_of s) (set_of r.counts)) (sym b.first)
    (row_smallest (load_of s) b.set b.smallest)

-- What every run of a show has.
pub record Has (s : Show) (r : Run) : Type 0 where
  pub sized : Sized r
  pub sound : SoundRun r
  pub show : r.show ≡ s
  pub smallest : Smallest (load_of s) (set_of r.counts)

pub always : (s : Show) (r : Run) → RunOf s r → Has s r
always s r (opened o h e) =
    record {
      sized = opened_sized s o h e;
      sound = opened_sound s o h e;
      show = opened_show s o h e;
      smallest = opened_smallest s o h e;
    }
always s r (called p q h a) =
    let x = always s p h in
    let k = after_leaves p r x.sized a in
    let u = leaves_unused p r k in
    record {
      sized = leaves_sized p r x.sized k;
      sound = after_sound p r x.sized x.sound a;
      show = u.show ∙ x.show;
      smallest = subst (λ (c : List ℕ). Smallest (load_of s) (set_of c)) (sym u.counts) x.smallest;
    }

-- ---- loaded until Idle

idle_starts :
    (r : Run) → SoundRun r → 0 < playing r → r.started ≡ false → (choose_of r).choice ≡ Idle → (start_of (choose_of r).run).check ≡ Ok tt
unfolding idled
idle_starts r s l f e =
    rw (idle_run r e l)
    (far_starts (idled r) (idled_sound r s l) l (choose_ahead r s e) f (idle_free r e))

pub hands_back : HandsBack
hands_back =
    record {
      pass = pass_refused;
      take = take_refused;
      choose = choose_refused;
      finish = finish_refused;
      start = start_refused;
      workahead = workahead_run;
      slack = slack_run;
      player = refused_back;
    }

pub runs : Runs
runs =
    record {
      opened_sound = opened_sound;
      opened_show = opened_show;
      after_sound = after_sound;
      always_sound = λ s r h. (let x = always s r h in (x.sound, x.show));
      refused = hands_back;
      damaged_stays =
          λ r n.
          record {
            pass = λ d. sym (pass_damaged r d n);
            take = λ i k. sym (take_damaged r i k n);
            choose = sym (choose_damaged r n);
            finish = λ d. sym (finish_damaged r d n);
            workahead = λ i. sym (workahead_damaged r i n);
            slack = sym (slack_damaged r n);
            start = sym (start_damaged r n);
          };
      player_agrees = take_players;
      player_sound = granted_sound;
      after_unused = λ r q n a. leaves_unused r q (after_leaves r q n a);
      pass_kept = pass_kept;
      take_kept = take_kept;
      choose_kept = choose_kept;
      finish_kept = λ r d n. finish_kept r d n.states;
      order_fixed = λ r q n a e. leaves_order r q (after_leaves r q n a) e;
      no_order_more = λ r place z e.
          (let t = slack_told r z e in subst (λ (x : ℤ). slack_by place (ahead_at r) (time_at r) (playing r) ≤ℤ x) (sym t.1) (slack_most r place t.0));
      idle_ahead = choose_ahead;
      idle_starts = idle_starts;
    }
