-- The worked numbers of docs/RULES.md, section 5, and beside p8 a run with unequal counts, as one statement over one table. proofs/Table.antt
-- proves it.
use Rattle.std.specs.Prelude.{ℕ, ◌*◌, ◌<◌, ◌≡◌, Bool, true, false, List, [], ◌∷◌, ◌++◌, pos, negsuc, length, replicate, take, get_or, Ok, None}
use Rattle.show.specs.declared.Drive.{Drive}
use Rattle.show.specs.declared.Layout.{Layout}
use Rattle.show.specs.declared.Session.{Session}
use Rattle.show.specs.declared.Show.{Show}
use Rattle.show.specs.declared.refusal.Refusal.TheVariants.{NoSet}
use Rattle.show.specs.Limits.{Between, ShowWithin, buffer_most, no_layout, no_session}
use Rattle.show.specs.Lists.{listed}
use Rattle.cost.specs.WorstTimes.{worst_of}
use Rattle.theory.specs.Slack.{slack_by}
use Rattle.theory.specs.Counts.{unit, round_time}
use Rattle.theory.specs.Shows.{load_of}
use Rattle.verdict.specs.declared.Decision.{Decision}
use Rattle.trial.specs.declared.Trial.{Trial}
use Rattle.verdict.specs.Answers.{DecisionIs, refused_for, set_of, verdict_outcome}
use Rattle.trial.specs.Answers.{TrialIs}
use Rattle.state.specs.declared.State.{State}
use Rattle.run.specs.declared.Run.{Run}
use Rattle.state.specs.State.{no_state}
use Rattle.playback.specs.Answers.{pass_of}
use Rattle.standing.specs.declared.Standing.{Standing}
use Rattle.standing.specs.Times.{ahead_at, time_at}
use Rattle.standing.specs.Answers.{slack_for}
use Rattle.spare.specs.Answers.{workahead_of, slack_of, start_of}

-- A = 51,200, N = 10
abbrev pub box : Drive
box = record { block = 51200; cylinder = 10 }

-- Layout X: 20,000, 2,000, 10,000, 5,000
abbrev pub X : Layout
X = record { longest = 20000; track = 2000; time = 10000; rotation = 5000 }

-- Layout Z: 20,000, 0, 10,000, 5,000
abbrev pub Z : Layout
Z = record { longest = 20000; track = 0; time = 10000; rotation = 5000 }

-- Rate 512,000 and Y = 1
abbrev pub buffered : ℕ → Session
buffered b = record { rate = 512000; cushion = 1; buffer = b; layout = 0 }

-- buffers ample
abbrev pub clip : Session
clip = buffered 200000000

-- A show of these sessions on one layout: zeros in the unused places
abbrev pub show_of : Layout → List Session → Show
show_of y xs =
    record {
      drive = box;
      layouts = y ∷ replicate 7 no_layout;
      laid = 1;
      sessions = take 16 (xs ++ replicate 16 no_session);
      playing = length xs;
    }

-- a number for each session, zeros above
abbrev pub places : List ℕ → List ℕ
places l = take 16 (l ++ replicate 16 0)

-- Accepted: L, the counts and U of each.
abbrev pub yes_with : ℕ → List ℕ → List ℕ → Decision
yes_with L counts times = record { verdict = Ok tt; round = L; counts = places counts; times = places times }

-- d is the answer, and what is answered comes to the number n, with place 0 and no values.
pub record Decided (s : Show) (d : Decision) (n : ℕ) : Type 0 where
  pub answer : DecisionIs s d
  pub outcome : (e : Decision) → DecisionIs s e → verdict_outcome e.verdict ≡ record { number = n; place = 0; values = [] }

-- Refused 8.
abbrev pub no_set_found : Decision
no_set_found = refused_for NoSet

abbrev pub RefusedEight : Show → Type 0
RefusedEight s = Decided s no_set_found 8

-- Counts that are no feasible workahead-augmenting set: their L, and U of each.
abbrev pub not_enough : ℕ → List ℕ → Trial
not_enough L times = record { answer = Ok false; round = L; times = places times }

-- A round of these counts takes so many µs, and each count lasts so many at its rate, to the microbyte: it must take less than they last.
pub record Against (s : Show) (m : List ℕ) (taken lasting : ℕ) : Type 0 where
  pub takes : round_time (load_of s) (set_of m) ≡ taken
  pub lasts : (i : ℕ) → i < s.playing → set_of m i * unit (load_of s) ≡ ((load_of s).stream i).rate * lasting

-- p1. X: U(1) = 42,000, U(10) = 132,000, U(11) = 144,000.
pub record P1 : Type 0 where
  pub one : worst_of (show_of X (clip ∷ [])) 0 1 ≡ Ok 42000
  pub ten : worst_of (show_of X (clip ∷ [])) 0 10 ≡ Ok 132000
  pub eleven : worst_of (show_of X (clip ∷ [])) 0 11 ≡ Ok 144000

-- p2. One session on X: count 1; with B = 102,401 accepted, with 102,400 refused 8.
pub record P2 : Type 0 where
  pub ample : DecisionIs (show_of X (clip ∷ [])) (yes_with 42000 (1 ∷ []) (42000 ∷ []))
  pub enough : DecisionIs (show_of X (buffered 102401 ∷ [])) (yes_with 42000 (1 ∷ []) (42000 ∷ []))
  pub short : RefusedEight (show_of X (buffered 102400 ∷ []))

-- p3. Three on X: 2, 2, 2, L = 156,000. (Count 1 gives 126,000 against 100,000.)
pub record P3 : Type 0 where
  pub twice : DecisionIs (show_of X (replicate 3 clip)) (yes_with 156000 (replicate 3 2) (replicate 3 52000))
  pub once : TrialIs (show_of X (replicate 3 clip)) (places (replicate 3 1)) (not_enough 126000 (replicate 3 42000))
  pub against : Against (show_of X (replicate 3 clip)) (places (replicate 3 1)) 126000 100000

-- p4. Two on X with longest seek 28,000: one each gives 100,000 against 100,000, so 2, 2, L = 120,000.
abbrev pub far : Layout
far = record { longest = 28000; track = 2000; time = 10000; rotation = 5000 }

pub record P4 : Type 0 where
  pub twice : DecisionIs (show_of far (replicate 2 clip)) (yes_with 120000 (replicate 2 2) (replicate 2 60000))
  pub once : TrialIs (show_of far (replicate 2 clip)) (places (replicate 2 1)) (not_enough 100000 (replicate 2 50000))
  pub against : Against (show_of far (replicate 2 clip)) (places (replicate 2 1)) 100000 100000

-- p5. Nine on Z: 28 each, L = 2,790,000. 27 gives 2,700,000 on both sides. B = 1,484,801 does, 1,484,800 does not.
pub record P5 : Type 0 where
  pub ample : DecisionIs (show_of Z (replicate 9 clip)) (yes_with 2790000 (replicate 9 28) (replicate 9 310000))
  pub even : TrialIs (show_of Z (replicate 9 clip)) (places (replicate 9 27)) (not_enough 2700000 (replicate 9 300000))
  pub against : Against (show_of Z (replicate 9 clip)) (places (replicate 9 27)) 2700000 2700000
  pub enough : DecisionIs (show_of Z (replicate 9 (buffered 1484801))) (yes_with 2790000 (replicate 9 28) (replicate 9 310000))
  pub short : RefusedEight (show_of Z (replicate 9 (buffered 1484800)))

-- p6. Ten on Z, an even hundred per cent: refused 8 at every buffer size.
pub record P6 : Type 0 where
  pub hundred :
      (size : ℕ → ℕ) → ((i : ℕ) → i < 10 → Between 1 (size i) buffer_most) →
      RefusedEight (show_of Z (listed (λ i. buffered (size i)) 10))

-- p7. As p6 with the tenth at rate 506,880: 3,091 for nine, 3,060 for the tenth, L = 309,090,000.
abbrev pub slower : Session
slower = record { rate = 506880; cushion = 1; buffer = 200000000; layout = 0 }

pub record P7 : Type 0 where
  pub under :
      DecisionIs (show_of Z (replicate 9 clip ++ (slower ∷ [])))
      (yes_with 309090000 (replicate 9 3091 ++ (3060 ∷ [])) (replicate 9 30940000 ++ (30630000 ∷ [])))

-- A run of a show with these counts and states, in table order at its first session, with nothing under way; zeros in the unused places
abbrev pub run_of : Show → List ℕ → List State → Bool → Run
run_of s counts states started =
    record {
      show = s;
      counts = places counts;
      states = take 16 (states ++ replicate 16 no_state);
      order = places (listed (λ i. i) s.playing);
      place = 0;
      left = get_or counts 0 0;
      underway = None;
      started = started;
    }

-- bytes put, none taken
abbrev pub loaded : ℕ → State
loaded P = record { put = P; taken = 0; clock = 0 }

-- p8. p3's set, workaheads 156,000, 60,000, 110,000: slack 0. (In table order it would be -46,000.) It starts, and cycles in that order.
abbrev pub eighth : Run
eighth = run_of (show_of X (replicate 3 clip)) (replicate 3 2) (loaded 79873 ∷ loaded 30721 ∷ loaded 56321 ∷ []) false

-- its sessions at these places
abbrev pub eighth_by : List ℕ → Standing
eighth_by at =
    record {
      playing = 3;
      aheads = pos 156000 ∷ pos 60000 ∷ pos 110000 ∷ replicate 13 (pos 0);
      times = places (replicate 3 52000);
      places = places at;
    }

pub record P8 : Type 0 where
  pub first : workahead_of eighth 0 ≡ record { spare = Ok (pos 156000); run = eighth }
  pub second : workahead_of eighth 1 ≡ record { spare = Ok (pos 60000); run = eighth }
  pub third : workahead_of eighth 2 ≡ record { spare = Ok (pos 110000); run = eighth }
  pub slack : slack_of eighth ≡ record { spare = Ok (pos 0); run = eighth }
  pub table : slack_by (λ i. i) (ahead_at eighth) (time_at eighth) 3 ≡ negsuc 45999
  pub given : slack_for (eighth_by (0 ∷ 1 ∷ 2 ∷ [])) ≡ Ok (negsuc 45999)
  pub start : (start_of eighth).check ≡ Ok tt
  pub order : (start_of eighth).run.order ≡ places (1 ∷ 2 ∷ 0 ∷ [])

-- Beside p8, unequal counts: two on X, the second at twice the rate: 1 and 2, L = 94,000. Workaheads 94,000 and 52,000: slack 0. It starts with the
-- second, of whose count 2 are left.
abbrev pub faster : Session
faster = record { rate = 1024000; cushion = 1; buffer = 200000000; layout = 0 }

abbrev pub uneven : Run
uneven = run_of (show_of X (clip ∷ faster ∷ [])) (1 ∷ 2 ∷ []) (loaded 48129 ∷ loaded 53249 ∷ []) false

pub record Uneven : Type 0 where
  pub counts : DecisionIs (show_of X (clip ∷ faster ∷ [])) (yes_with 94000 (1 ∷ 2 ∷ []) (42000 ∷ 52000 ∷ []))
  pub first : workahead_of uneven 0 ≡ record { spare = Ok (pos 94000); run = uneven }
  pub second : workahead_of uneven 1 ≡ record { spare = Ok (pos 52000); run = uneven }
  pub slack : slack_of uneven ≡ record { spare = Ok (pos 0); run = uneven }
  pub start : (start_of uneven).check ≡ Ok tt
  pub order : (start_of uneven).run.order ≡ places (1 ∷ 0 ∷ [])
  pub place : (start_of uneven).run.place ≡ 0
  pub left : (start_of uneven).run.left ≡ 2

-- p9. One microbyte behind the cushion: workahead -1.
abbrev pub clocked : ℕ → Run
clocked C = run_of (show_of X (clip ∷ [])) (1 ∷ []) (record { put = 1; taken = 1; clock = C } ∷ []) true

pub record P9 : Type 0 where
  pub behind : workahead_of (clocked 1) 0 ≡ record { spare = Ok (negsuc 0); run = clocked 1 }

-- p10. Started, C = 0, G = 1: after 1 µs C is 512,000, after 2 µs 1,000,000.
pub record P10 : Type 0 where
  pub one : pass_of (clocked 0) 1 ≡ record { check = Ok tt; run = clocked 512000 }
  pub two : pass_of (clocked 0) 2 ≡ record { check = Ok tt; run = clocked 1000000 }

pub record Table : Type 0 where
  -- An empty show is accepted with L = 0: every show within the limits that has no session.
  pub empty : (s : Show) → ShowWithin s → s.playing ≡ 0 → DecisionIs s (yes_with 0 [] [])
  pub p1 : P1
  pub p2 : P2
  pub p3 : P3
  pub p4 : P4
  pub p5 : P5
  pub p6 : P6
  pub p7 : P7
  pub p8 : P8
  pub uneven : Uneven
  pub p9 : P9
  pub p10 : P10
