-- Spare time to the microsecond, by citation. Assumes nothing.
use Rattle.std.specs.Prelude.{Ok, Err, None}
use Prim.Native.Nat.{ℕ, ◌-◌, ◌≤◌, ◌<◌}
use mathlib.Core.Path.{◌≡◌, refl, sym, ap, subst, ◌∙◌}
use mathlib.Core.Bool.{false}
use mathlib.Core.Logic.{inl, inr}
use native.Mathlib.Omega.{arith}
use native.Mathlib.Nat.{le_of_lt}
use native.Mathlib.Decide.{dec_lt, ℕ_discrete}
use lib.IntN.{ℤ, pos}
use lib.ListN.{length, get_or}
use lib.Signed.{◌≤ℤ◌, clash_ℤ}
use Rattle.show.specs.Outcomes.{Check}
use Rattle.show.specs.declared.refusal.Refusal.{Refusal}
use Rattle.show.specs.declared.refusal.Refusal.TheVariants.{Damaged}
use Rattle.theory.specs.Floor.{Floors}
use Rattle.theory.specs.Slack.{less?, spare_by, slack_by, Before, rank}
use Rattle.theory.proofs.Integers.{not_less, ≤ℤ-antisymm}
use Rattle.theory.proofs.Floor.{floor_floors}
use Rattle.theory.proofs.Slack.{attained, slack_least, rank_below, rank_rises, rank_first, rank_apart}
use Rattle.verdict.specs.Answers.{set_of}
use Rattle.run.specs.declared.Run.{Run}
use Rattle.run.specs.Run.{playing, clip_at, seat_at, left_in}
use Rattle.run.specs.Sound.{SoundRun, NamesEach}
use Rattle.run.specs.Decisions.{sound?}
use Rattle.run.specs.Answers.{moved}
use Rattle.run.specs.declared.Moved.{Moved}
use Rattle.run.proofs.Answered.{moved_check}
use Rattle.run.proofs.Orders.{names_below}
use Rattle.standing.specs.Times.{ahead_at, time_at, place_at}
use Rattle.order.specs.Order.{ahead_in, place_in}
use Rattle.standing.specs.Standing.{spare_in}
use Rattle.standing.specs.Answers.{stood_of, slack_for}
use Rattle.standing.proofs.Calls.{stood_standing}
use Rattle.workahead.proofs.Laws.{ahead_told}
use Rattle.standing.proofs.Laws as told
use Rattle.standing.proofs.Countings.{counting}
use Rattle.order.proofs.Orders.{named_at}
use Rattle.spare.specs.declared.Spared.{Spared}
use Rattle.spare.specs.Times.{start_order, running}
use Rattle.spare.specs.Answers.{workahead_of, slack_of, start_check, start_of}
use Rattle.spare.proofs.Calls.{workahead_damaged, slack_damaged, slack_stood, start_names, start_begins, begin_granted}
use Rattle.spare.proofs.Laws.{workahead_told, slack_told, starts, start_granted}
use Rattle.promises.specs.Runs.{Sized}
use Rattle.promises.specs.SpareTime.{lead_of, lead_at, LeastOf, AtFirst, SpareTime}

-- ---- workahead

-- A time is told of a sound run alone.
timed_sound :
    (r : Run) (a : Spared) (z : ℤ) → ((SoundRun r → ⊥) → record { spare = Err Damaged; run = r } ≡ a) → a.spare ≡ Ok z →
    SoundRun r
timed_sound r a z damaged e =
    elim (sound? r) [
      | yes s ↦ s
      | no n ↦ clash (ap (λ (b : Spared). b.spare) (damaged n) ∙ e)
    ]
  where
    clash : {X : Type 0} {w : Refusal} → Err w ≡ Ok z → X
    clash f = let z : ◌≡◌ {A = ℕ} 0 1 = cc in absurd (let g : ⊥ = omega arith in g)

floored : (r : Run) (i : ℕ) (z : ℤ) → (workahead_of r i).spare ≡ Ok z → Floors (lead_at r i) (clip_at r i).rate z
floored r i z e =
    let t = workahead_told r i z e in
    subst (Floors (lead_at r i) (clip_at r i).rate) (sym t.1)
    (floor_floors (lead_at r i) (clip_at r i).rate (counting r (timed_sound r (workahead_of r i) z (workahead_damaged r i) e) i t.0).rate)

-- ---- slack

slack_is : (place : ℕ → ℕ) (w : ℕ → ℤ) (u : ℕ → ℕ) (n : ℕ) → 0 < n → LeastOf (spare_by place w u n) n (slack_by place w u n)
unfolding slack_by
slack_is place w u n l =
    let a = attained (spare_by place w u n) (n - 1) in
    record { below = slack_least place w u n; at = a.at; inside = (let h = a.within in omega arith); is = a.is }

-- ---- start

module _ (r : Run) (e : (start_of r).check ≡ Ok tt) where
  checked : start_check r ≡ Ok tt
  unfolding start_of
  checked = sym (moved_check (start_check r) r (running r)) ∙ e

  start_runs : (start_of r).run ≡ running r
  unfolding start_of
  start_runs = ap (λ (k : Check). (moved k r (running r)).run) checked

  module _ (n : Sized r) where
    few : playing r ≤ length r.order
    few = let h = (starts r checked).sound.within.counts.sessions in let k = n.order in omega arith

    -- the session at a place ranks at that place
    seat_ranks : (k : ℕ) → k < playing r → (get_or (start_order r) k 0 < playing r) × (place_at r (get_or (start_order r) k 0) ≡ k)
    seat_ranks k l =
        let each = start_names r few in
        let i = get_or (start_order r) k 0 in
        let b = names_below (start_order r) (playing r) each k l in
        let at = named_at (place_at r) r.order (playing r) (λ j m. let h = rank_below (ahead_at r) (playing r) j m in let f = few in omega arith)
        (rank_apart (ahead_at r) (playing r)) i b in
        let o = each i b in
        (b, o.only (place_at r i) (rank_below (ahead_at r) (playing r) i b) at ∙ sym (o.only k l refl))

-- Lower rank, earlier: less workahead, or as much and a lower number.
rank_before : (w : ℕ → ℤ) (n i j : ℕ) → i < n → j < n → rank w n i < rank w n j → Before w i j
rank_before w n i j l m h =
    elim (less? (w i) (w j)) [
      | yes b ↦ inl b
      | no b ↦
          (let even = ≤ℤ-antisymm (w i) (w j) (rank_first w n i j l m (le_of_lt h)) (not_less b) in
          elim (dec_lt i j) [
            | yes c ↦ inr (even, c)
            | no c ↦
                elim (ℕ_discrete i j) [
                  | yes d ↦ absurd (let z : rank w n i ≡ rank w n j = ap (rank w n) d in let f : ⊥ = omega arith in f)
                  | no d ↦ absurd (let z = rank_rises w n j i m (inr (sym even, omega arith)) in let f : ⊥ = omega arith in f)
                ]
          ])
    ]

module _ (r : Run) (n : Sized r) (e : (start_of r).check ≡ Ok tt) where
  start_each : NamesEach (start_of r).run.order (playing r)
  unfolding running
  start_each = rw (start_runs r e) (start_names r (few r e n))

  start_rises : (j k : ℕ) → j < k → k < playing r → Before (ahead_at r) (seat_at (start_of r).run j) (seat_at (start_of r).run k)
  unfolding running
  start_rises j k l m =
      rw (start_runs r e)
      (let a = seat_ranks r e n j (omega arith) in
      let b = seat_ranks r e n k m in
      rank_before (ahead_at r) (playing r) _ _ a.0 b.0 (let p = a.1 in let q = b.1 in omega arith))

module _ (r : Run) (e : (start_of r).check ≡ Ok tt) where
  start_first_session : AtFirst (start_of r).run
  unfolding running left_in
  start_first_session = rw (start_runs r e) (record { place = refl; left = refl; underway = (starts r (checked r e)).free })

start_within :
    (r : Run) (z : ℤ) → (slack_of r).spare ≡ Ok z → r.started ≡ false → r.underway ≡ None → pos 0 ≤ℤ z → (start_of r).check ≡ Ok tt
start_within r z e fresh free enough =
    let t = slack_told r z e in
    let s = timed_sound r (slack_of r) z (slack_damaged r) e in
    ap (λ (m : Moved). m.check)
    (sym (start_begins r s fresh free _ t.0 (begin_granted r (running r) (λ l. clash_ℤ l (subst (λ (x : ℤ). pos 0 ≤ℤ x) t.1 enough)) refl)))

pub spare_time : SpareTime
spare_time =
    record {
      workahead = floored;
      ahead_of = λ x s z e.
          (let t = ahead_told x s z e in
          subst (Floors (lead_of x s) x.rate) (sym t.1) (floor_floors (lead_of x s) x.rate t.0));
      slack = λ r z e.
          (let t = slack_told r z e in
          subst (LeastOf (spare_by (place_at r) (ahead_at r) (time_at r) (playing r)) (playing r)) (sym t.1)
          (slack_is (place_at r) (ahead_at r) (time_at r) (playing r) t.0));
      slack_in = λ s z e.
          (let t = told.slack_told s z e in
          subst (LeastOf (spare_in s) s.playing) (sym t.1)
          (slack_is (place_in s.places) (ahead_in s.aheads) (set_of s.times) s.playing t.0));
      stand = λ r s.
          ap slack_for (stood_standing r s (stood_of r) refl) ∙ ap (λ (x : Spared). x.spare) (slack_stood r s _ refl);
      granted = λ r z e g. subst (λ (x : ℤ). pos 0 ≤ℤ x) (sym (slack_told r z e).1) (not_less (starts r (checked r g)).enough);
      grants = start_within;
      names = start_each;
      order = start_rises;
      first = start_first_session;
      kept = start_granted;
    }
