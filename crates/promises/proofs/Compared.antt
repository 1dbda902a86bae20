-- Pairs of runs as demand 3 compares them, with the slack of each: a session left out, a rate lowered, and a rate lowered behind the
-- cushion, where the lighter has less. Each is computed. Assumes nothing.
use Rattle.std.specs.Prelude.{Ok, true, false}
use Prim.Native.Nat.{ℕ, zero, suc, ◌≤◌, ◌<◌}
use mathlib.Core.Path.{◌≡◌, refl, sym, ap}
use mathlib.Core.List.{[], ◌∷◌}
use mathlib.Core.Logic.Dec
use mathlib.Core.Logic.{inl, inr}
use native.Mathlib.Decide.{dec_le, dec_lt, ℕ_discrete}
use native.Mathlib.Omega.{arith}
use lib.Dec.{T}
use lib.IntN.{ℤ, pos, negsuc}
use lib.Signed.{le_z_yes}
use Rattle.show.specs.Decisions.{between?, counts?, drive?, layout?, session?}
use Rattle.show.specs.Lists.{listed}
use Rattle.cost.specs.Bound.{worst_time, edges, ceil}
use Rattle.cost.specs.Costs.{cost_of}
use Rattle.theory.specs.Sum.{sum_to}
use Rattle.theory.specs.Floor.{floor_z}
use Rattle.theory.specs.Slack.{less?, least_to, slack_by, same?, before?, rank}
use Rattle.theory.specs.Counts.{Smallest}
use Rattle.theory.specs.Shows.{load_of, Easier, stood_at, eased, left_out}
use Rattle.verdict.specs.Answers.{set_of}
use Rattle.run.specs.declared.Run.{Run}
use Rattle.run.specs.Run.{playing, state_at}
use Rattle.run.specs.Sound.{SoundRun}
use Rattle.state.specs.Decisions.{false?, true?, waiting?, state?}
use Rattle.run.specs.Decisions.{below?, some?, show?, good?}
use Rattle.run.specs.Decisions.{named?, nothing?, room?, put?, may_read?, underway?, cycle?, sound?}
use Rattle.standing.specs.Times.{slack_time}
use Rattle.spare.specs.declared.Spared.{Spared}
use Rattle.spare.specs.Answers.{slack_of}
use Rattle.spare.specs.Laws.{Steady, Lightly}
use Rattle.spare.proofs.Calls.{slack_time_is}
use Rattle.promises.specs.Numbers.{places}
use Rattle.promises.specs.Lighter.{Worse, NoLess, one, two}
use Rattle.promises.proofs.Worked.{told, from_told}

-- ---- the runs, sound and with their slack

record Timed (r : Run) (z : ℤ) : Type 0 where
  sound : SoundRun r
  slack : (slack_of r).spare ≡ Ok z

timed : (r : Run) (z : ℤ) → T (told (sound? r)) → 0 < playing r → z ≡ slack_time r → Timed r z
timed r z t l e =
    let s = from_told (sound? r) t in
    record { sound = s; slack = ap (λ (x : Spared). x.spare) (sym (slack_time_is r s z l e)) }

record Runs : Type 0 where
  slow : Timed (one 1 0) (negsuc 1041999)
  opened : Timed (one 512000 0) (negsuc 42001)
  both : Timed (two 512000 0) (negsuc 84001)
  half : Timed (one 256000 51201) (pos 158000)
  ahead : Timed (one 512000 51201) (pos 58000)

runs : Runs
unfolding told sound? show? good? below? state? named? some? cycle? false? true? waiting? nothing? room? put? may_read? underway? counts? drive?
    layout? session? between? floor_z least_to slack_by before? rank less? same? sum_to cost_of worst_time edges ceil listed dec_le dec_lt ℕ_discrete
    Dec.and
runs =
    record {
      slow = timed (one 1 0) _ tt (omega arith) refl;
      opened = timed (one 512000 0) _ tt (omega arith) refl;
      both = timed (two 512000 0) _ tt (omega arith) refl;
      half = timed (one 256000 51201) _ tt (omega arith) refl;
      ahead = timed (one 512000 51201) _ tt (omega arith) refl;
    }

-- ---- with the smallest counts: a count of 1 is as small as a count can be

only : (p : ℕ → Type 0) → p 0 → (i : ℕ) → i < 1 → p i
only p h zero l = h
only p h (suc i) l = absurd (let f : ⊥ = omega arith in f)

one_smallest : (R P : ℕ) → SoundRun (one R P) → Smallest (load_of (one R P).show) (set_of (one R P).counts)
one_smallest R P s =
    record { good = s.counts; least = λ o g i l. only (λ j. 1 ≤ o j → set_of (places (1 ∷ [])) j ≤ o j) (λ h. h) i l (g.counted i l) }

two_smallest : (R P : ℕ) → SoundRun (two R P) → Smallest (load_of (two R P).show) (set_of (two R P).counts)
two_smallest R P s = record { good = s.counts; least = λ o g i l. either i l (g.counted i l) }
  where
    either : (i : ℕ) → i < 2 → {n : ℕ} → 1 ≤ n → set_of (places (1 ∷ 1 ∷ [])) i ≤ n
    either zero l h = h
    either (suc zero) l h = h
    either (suc (suc i)) l h = absurd (let f : ⊥ = omega arith in f)

-- ---- a rate lowered

rate_lowered : (R Q P : ℕ) → R ≤ Q → SoundRun (one R P) → SoundRun (one Q P) → Lightly (one R P) (one Q P) (λ i. i)
rate_lowered R Q P h s t =
    record {
      lighter = eased (record { drive = refl; playing = refl; session = only (λ i. Easier (one R P).show (one Q P).show i i) easier });
      light = s;
      heavy = t;
      after = one_smallest R P s;
      before = one_smallest Q P t;
      states = λ i l. refl;
    }
  where
    easier : Easier (one R P).show (one Q P).show 0 0
    easier =
        record {
          rate = h;
          cushion = omega arith;
          buffer = omega arith;
          layout = record { longest = omega arith; track = omega arith; time = omega arith; rotation = omega arith };
        }

pub half_rate : NoLess (one 256000 51201) (one 512000 51201) (λ i. i) (pos 58000) (pos 158000)
half_rate =
    record {
      lightly = rate_lowered 256000 512000 51201 (omega arith) runs.half.sound runs.ahead.sound;
      steady = only (λ i. Steady (one 256000 51201) (one 512000 51201) i i) (inr (omega arith));
      light_slack = runs.half.slack;
      heavy_slack = runs.ahead.slack;
      no_less = le_z_yes tt;
    }

-- ---- and behind the cushion

pub worse : Worse
worse =
    record {
      light = one 1 0;
      heavy = one 512000 0;
      lightly = rate_lowered 1 512000 0 (omega arith) runs.slow.sound runs.opened.sound;
      alone = refl;
      lower = omega arith;
      behind = λ h. (let f : ⊥ = omega arith in f);
      less = negsuc 1041999;
      more = negsuc 42001;
      light_slack = runs.slow.slack;
      heavy_slack = runs.opened.slack;
      worse = record { lt = tt };
    }

-- ---- a session left out

pub one_left : NoLess (one 512000 0) (two 512000 0) (stood_at 0) (negsuc 84001) (negsuc 42001)
unfolding stood_at dec_lt
one_left =
    record {
      lightly =
          record {
            lighter = left_out {b = (two 512000 0).show} 0 (omega arith) (omega arith);
            light = runs.opened.sound;
            heavy = runs.both.sound;
            after = one_smallest 512000 0 runs.opened.sound;
            before = two_smallest 512000 0 runs.both.sound;
            states = only (λ i. state_at (one 512000 0) i ≡ state_at (two 512000 0) (stood_at 0 i)) refl;
          };
      steady = only (λ i. Steady (one 512000 0) (two 512000 0) i (stood_at 0 i)) (inl refl);
      light_slack = runs.opened.slack;
      heavy_slack = runs.both.slack;
      no_less = le_z_yes tt;
    }
