-- Demand 3: make an accepted show lighter and nothing gets worse. proofs/Lighter.antt and proofs/LighterRuns.antt prove it.
use Rattle.std.specs.Prelude.{ℕ, ◌≤◌, ◌<◌, ◌≡◌, false, [], ◌∷◌, ℤ, pos, negsuc, ◌≤ℤ◌, ◌<ℤ◌, Ok}
use Rattle.show.specs.declared.Session.{Session}
use Rattle.show.specs.declared.Show.{Show}
use Rattle.show.specs.Limits.{ShowWithin}
use Rattle.theory.specs.Counts.{Smallest}
use Rattle.theory.specs.Reasons.{tenths}
use Rattle.theory.specs.Shows.{load_of, Lightened, without, stood_at}
use Rattle.verdict.specs.declared.Decision.{Decision}
use Rattle.verdict.specs.Answers.{DecisionIs, set_of}
use Rattle.run.specs.declared.Run.{Run}
use Rattle.run.specs.Run.{playing, clip_at}
use Rattle.spare.specs.Answers.{workahead_of, slack_of}
use Rattle.spare.specs.Laws.{Cushioned, Steady, Lightly}
use Rattle.promises.specs.Files.{Shaped}
use Rattle.promises.specs.Numbers.{X, show_of, run_of, loaded}
use Rattle.promises.specs.Reasons.{load_sum, full_load}
use Rattle.promises.specs.Runs.{RunOf}

-- Accepted again; no count, time or round is larger. Session i stood at place e i before.
pub record NoWorse (playing : ℕ) (e : ℕ → ℕ) (light heavy : Decision) : Type 0 where
  pub accepted : light.verdict ≡ Ok tt
  pub counts : (i : ℕ) → i < playing → set_of light.counts i ≤ set_of heavy.counts (e i)
  pub times : (i : ℕ) → i < playing → set_of light.times i ≤ set_of heavy.times (e i)
  pub round : light.round ≤ heavy.round

pub record Lighter : Type 0 where
  -- Fewer sessions, lower rates, lower cushions, larger buffers, layouts with no time longer: one change after another, within the limits.
  pub lighter :
      (a b : Show) (e : ℕ → ℕ) → Lightened a b e → ShowWithin a → (d f : Decision) → DecisionIs a d → DecisionIs b f →
      f.verdict ≡ Ok tt → NoWorse a.playing e d f
  -- One session left out of an accepted show: the rest is within the limits by itself.
  pub fewer :
      (b : Show) (k : ℕ) → Shaped b → k < b.playing → (d f : Decision) → DecisionIs (without k b) d → DecisionIs b f →
      f.verdict ≡ Ok tt → NoWorse (without k b).playing (stood_at k) d f
  -- The drive has no more to do: the sum is no larger, of the same full load; and so it is in tenths of a per cent.
  pub load : (a b : Show) (e : ℕ → ℕ) → Lightened a b e → load_sum a ≤ load_sum b
  pub full : (a b : Show) (e : ℕ → ℕ) → Lightened a b e → full_load a ≡ full_load b
  pub told : (a b : Show) (e : ℕ → ℕ) → Lightened a b e → tenths (load_of a) ≤ tenths (load_of b)

-- ---- spare time

-- Two runs as demand 3 compares them, where the lighter has less to spare: its one session plays at a lower rate, behind its cushion.
pub record Worse : Type 0 where
  pub light : Run
  pub heavy : Run
  pub lightly : Lightly light heavy (λ i. i)
  pub alone : playing light ≡ 1
  pub lower : (clip_at light 0).rate < (clip_at heavy 0).rate
  pub behind : Cushioned light 0 → ⊥
  pub less : ℤ
  pub more : ℤ
  pub light_slack : (slack_of light).spare ≡ Ok less
  pub heavy_slack : (slack_of heavy).spare ≡ Ok more
  pub worse : less <ℤ more

-- Two runs as demand 3 compares them, their sessions as the proviso asks, where the lighter has no less to spare.
pub record NoLess (light heavy : Run) (e : ℕ → ℕ) (less more : ℤ) : Type 0 where
  pub lightly : Lightly light heavy e
  pub steady : (i : ℕ) → i < playing light → Steady light heavy i (e i)
  pub light_slack : (slack_of light).spare ≡ Ok more
  pub heavy_slack : (slack_of heavy).spare ≡ Ok less
  pub no_less : less ≤ℤ more

-- Sessions of this rate on X, opened, each with P bytes put: one, and two.
abbrev pub rated : ℕ → Session
rated R = record { rate = R; cushion = 1; buffer = 200000000; layout = 0 }

abbrev pub one : ℕ → ℕ → Run
one R P = run_of (show_of X (rated R ∷ [])) (1 ∷ []) (loaded P ∷ []) false

abbrev pub two : ℕ → ℕ → Run
two R P = run_of (show_of X (rated R ∷ rated R ∷ [])) (1 ∷ 1 ∷ []) (loaded P ∷ loaded P ∷ []) false

pub record LighterRuns : Type 0 where
  -- A session of the lighter run that plays at the rate it had, or that is not behind its cushion, has no less workahead; where each is so,
  -- the slack is no smaller.
  pub workahead :
      (a b : Run) (e : ℕ → ℕ) → Lightly a b e → (i : ℕ) (y z : ℤ) → Steady a b i (e i) → (workahead_of a i).spare ≡ Ok z →
      (workahead_of b (e i)).spare ≡ Ok y → y ≤ℤ z
  pub slack :
      (a b : Run) (e : ℕ → ℕ) → Lightly a b e → (y z : ℤ) → ((i : ℕ) → i < playing a → Steady a b i (e i)) → (slack_of a).spare ≡ Ok z →
      (slack_of b).spare ≡ Ok y → y ≤ℤ z
  -- Where the heavier run's slack is 0 or more nothing more is asked: the lighter's is no smaller, and so 0 or more.
  pub kept :
      (a b : Run) (e : ℕ → ℕ) → Lightly a b e → (y z : ℤ) → (slack_of a).spare ≡ Ok z → (slack_of b).spare ≡ Ok y → pos 0 ≤ℤ y → y ≤ℤ z
  pub enough :
      (a b : Run) (e : ℕ → ℕ) → Lightly a b e → (y z : ℤ) → (slack_of a).spare ≡ Ok z → (slack_of b).spare ≡ Ok y → pos 0 ≤ℤ y →
      pos 0 ≤ℤ z
  -- The first of two left out, with nothing put: both were behind their cushions, at the rate that they had.
  pub left_out : NoLess (one 512000 0) (two 512000 0) (stood_at 0) (negsuc 84001) (negsuc 42001)
  -- Half the rate, where what is put was 100,000 µs ahead.
  pub half_rate : NoLess (one 256000 51201) (one 512000 51201) (λ i. i) (pos 58000) (pos 158000)
  -- The proviso is needed where a rate was lowered.
  pub proviso : Worse
  -- Every run of a show holds its smallest counts, whatever calls came before.
  pub smallest : (s : Show) (r : Run) → RunOf s r → Smallest (load_of r.show) (set_of r.counts)
