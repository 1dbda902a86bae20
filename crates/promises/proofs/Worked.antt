-- Worked runs: p8 to p10, and a start with unequal counts. Each is computed. Assumes nothing.
use mathlib.Core.Path.{refl, sym, ap}
use mathlib.Core.Bool.{Bool, true, false}
use mathlib.Core.List.{[], ◌∷◌}
use mathlib.Core.Logic.Dec
use native.Mathlib.Decide.{dec_le, dec_lt, ℕ_discrete}
use native.Mathlib.Omega.{arith}
use lib.Dec.{T}
use lib.IntN.{pos, negsuc}
use Rattle.show.specs.Decisions.{between?, counts?, drive?, layout?, session?}
use Rattle.show.specs.Lists.{listed}
use Rattle.cost.specs.Bound.{worst_time, edges, ceil}
use Rattle.cost.specs.Costs.{cost_of}
use Rattle.theory.specs.Sum.{sum_to}
use Rattle.theory.specs.Floor.{floor_z}
use Rattle.theory.specs.Slack.{less?, least_to, slack_by, same?, before?, rank}
use Rattle.verdict.specs.Answers.{DecisionIs}
use Rattle.run.specs.Run.{left_in}
use Rattle.run.specs.Sound.{SoundRun}
use Rattle.state.specs.Decisions.{false?, true?, waiting?, state?}
use Rattle.run.specs.Decisions.{below?, some?, show?, good?, named?, nothing?, room?, put?, may_read?, underway?, cycle?, sound?}
use Rattle.run.specs.Steps.{changed, passed}
use Rattle.run.specs.declared.Moved.{Moved}
use Rattle.playback.proofs.Calls.{pass_granted}
use Rattle.order.specs.Order.{named}
use Rattle.standing.specs.Standing.{Fit}
use Rattle.standing.specs.Decisions.{fit?}
use Rattle.standing.proofs.Calls.{slack_least}
use Rattle.spare.specs.Times.{running}
use Rattle.spare.proofs.Calls.{workahead_time, slack_time_is, start_begins, begin_granted}
use Rattle.promises.specs.Numbers.{X, clip, faster, show_of, yes_with, eighth, eighth_by, uneven, clocked, P8, Uneven, P9, P10}

-- ---- a test that computes

unfoldable pub told : {p : Type 0} → Dec p → Bool
told (yes h) = true
told (no h) = false

pub from_told : {p : Type 0} (d : Dec p) → T (told d) → p
unfolding told
from_told (yes h) t = h
from_told (no h) t = absurd t

pub eighth_sound : SoundRun eighth
unfolding told sound? show? good? below? state? named? some? cycle? false? true? waiting? nothing? room? put? may_read? underway? counts? drive?
    layout? session? between? sum_to cost_of worst_time edges ceil listed dec_le dec_lt ℕ_discrete Dec.and
eighth_sound = from_told (sound? eighth) tt

-- ---- p8

tabled_fit : Fit (eighth_by (0 ∷ 1 ∷ 2 ∷ []))
unfolding told fit? below? dec_le dec_lt ℕ_discrete Dec.and
tabled_fit = from_told (fit? (eighth_by (0 ∷ 1 ∷ 2 ∷ []))) tt

pub p8 : P8
unfolding floor_z least_to slack_by before? rank less? same? ℕ_discrete sum_to cost_of worst_time edges ceil listed dec_le dec_lt named running
p8 =
    let begins = start_begins eighth eighth_sound refl refl _ (omega arith) (begin_granted eighth (running eighth) (λ n. absurd n.lt) refl) in
    record {
      first = sym (workahead_time eighth 0 eighth_sound (pos 156000) (omega arith) refl);
      second = sym (workahead_time eighth 1 eighth_sound (pos 60000) (omega arith) refl);
      third = sym (workahead_time eighth 2 eighth_sound (pos 110000) (omega arith) refl);
      slack = sym (slack_time_is eighth eighth_sound (pos 0) (omega arith) refl);
      table = refl;
      given = sym (slack_least (eighth_by (0 ∷ 1 ∷ 2 ∷ [])) tabled_fit (negsuc 45999) (omega arith) refl);
      start = ap (λ (m : Moved). m.check) (sym begins);
      order = ap (λ (m : Moved). m.run.order) (sym begins);
    }

-- ---- beside p8: unequal counts

uneven_sound : SoundRun uneven
unfolding told sound? show? good? below? state? named? some? cycle? false? true? waiting? nothing? room? put? may_read? underway? counts? drive?
    layout? session? between? sum_to cost_of worst_time edges ceil listed dec_le dec_lt ℕ_discrete Dec.and
uneven_sound = from_told (sound? uneven) tt

pub uneven_starts : DecisionIs (show_of X (clip ∷ faster ∷ [])) (yes_with 94000 (1 ∷ 2 ∷ []) (42000 ∷ 52000 ∷ [])) → Uneven
unfolding floor_z least_to slack_by before? rank less? same? ℕ_discrete sum_to cost_of worst_time edges ceil listed dec_le dec_lt named running left_in
uneven_starts decided =
    let begins = start_begins uneven uneven_sound refl refl _ (omega arith) (begin_granted uneven (running uneven) (λ n. absurd n.lt) refl) in
    record {
      counts = decided;
      first = sym (workahead_time uneven 0 uneven_sound (pos 94000) (omega arith) refl);
      second = sym (workahead_time uneven 1 uneven_sound (pos 52000) (omega arith) refl);
      slack = sym (slack_time_is uneven uneven_sound (pos 0) (omega arith) refl);
      start = ap (λ (m : Moved). m.check) (sym begins);
      order = ap (λ (m : Moved). m.run.order) (sym begins);
      place = ap (λ (m : Moved). m.run.place) (sym begins);
      left = ap (λ (m : Moved). m.run.left) (sym begins);
    }

-- ---- p9 and p10

pub clocked_first : SoundRun (clocked 0)
unfolding told sound? show? good? below? state? named? some? cycle? false? true? waiting? nothing? room? put? may_read? underway? counts? drive?
    layout? session? between? sum_to cost_of worst_time edges ceil listed dec_le dec_lt ℕ_discrete Dec.and
clocked_first = from_told (sound? (clocked 0)) tt

clocked_next : SoundRun (clocked 1)
unfolding told sound? show? good? below? state? named? some? cycle? false? true? waiting? nothing? room? put? may_read? underway? counts? drive?
    layout? session? between? sum_to cost_of worst_time edges ceil listed dec_le dec_lt ℕ_discrete Dec.and
clocked_next = from_told (sound? (clocked 1)) tt

pub p9 : P9
unfolding floor_z least_to slack_by before? rank less? same? ℕ_discrete sum_to cost_of worst_time edges ceil listed dec_le dec_lt
p9 = record { behind = sym (workahead_time (clocked 1) 0 clocked_next (negsuc 0) (omega arith) refl) }

pub p10 : P10
unfolding changed passed listed
p10 =
    record {
      one = sym (pass_granted (clocked 0) 1 clocked_first (clocked 512000) (omega arith) refl);
      two = sym (pass_granted (clocked 0) 2 clocked_first (clocked 1000000) (omega arith) refl);
    }
