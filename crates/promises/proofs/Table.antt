-- The worked numbers hold: each is computed, but for p6, which is the law of overload. Assumes nothing.
use Rattle.std.specs.Prelude.{Ok}
use Prim.Native.Nat.{ℕ, zero, suc, ◌*◌, ◌≤◌, ◌<◌}
use mathlib.Core.Path.{◌≡◌, refl, ap, ◌∙◌, subst}
use mathlib.Core.Bool.{Bool, true, false}
use mathlib.Core.List.{List, [], ◌∷◌, ◌++◌}
use native.Mathlib.Omega.{arith}
use native.Mathlib.Nat.{le_refl}
use native.Mathlib.Decide.{dec_lt}
use lib.ListN.{replicate, get_or-append}
use lib.Seq.{get_or-take}
use lib.Dec.{T, leb, ltb, eqb, leb→le, ltb→lt, eqb→eq}
use Rattle.show.specs.declared.Session.{Session}
use Rattle.show.specs.declared.Show.{Show}
use Rattle.show.specs.Limits.{Between, ShowWithin, LaidWithin, buffer_most, session_at, no_session}
use Rattle.show.specs.Decisions.{counts?, drive?, layout?, session?}
use Rattle.show.specs.Checks.{show_check, first_below}
use Rattle.show.specs.Lists.{listed, padded}
use Rattle.show.proofs.Lists.{listed_length, listed_at}
use Rattle.show.proofs.Shows.{check_within}
use Rattle.cost.specs.Bound.{worst_time, edges, ceil}
use Rattle.cost.specs.Costs.{cost_of}
use Rattle.cost.specs.WorstTimes.{worst_of}
use Rattle.theory.specs.Sum.{sum_to}
use Rattle.theory.specs.Counts.{unit, round_time, needed}
use Rattle.theory.specs.Rounds.{need, asked, next, turns, NotPast}
use Rattle.theory.specs.Shows.{load_of}
use Rattle.theory.proofs.Rounds.{start_below, turns_below, still_least, least_smallest, unfit_refuses}
use Rattle.theory.proofs.Overload.{overload_refuses}
use Rattle.theory.proofs.Shows.{show_sound}
use Rattle.verdict.specs.declared.Decision.{Decision}
use Rattle.verdict.specs.Answers.{DecisionIs, accepted, no_set, accepted_with, set_of, verdict_outcome}
use Rattle.trial.specs.Answers.{TrialIs, fails, timed_as}
use Rattle.verdict.proofs.Once.{decision_once}
use Rattle.promises.proofs.Worked.{p8, uneven_starts, p9, p10}
use Rattle.promises.specs.Numbers.{Table, RefusedEight, Against, X, Z, far, buffered, clip, slower, faster, show_of, places, yes_with, no_set_found}

-- ---- tests that compute

unfoldable pub both : Bool → Bool → Bool
both true b = b
both false b = false

both_yes : (a b : Bool) → T (both a b) → T a × T b
unfolding both
both_yes true b t = (tt, t)
both_yes false b t = absurd t

-- the test passes at each number below n
unfoldable pub all : (ℕ → Bool) → ℕ → Bool
all f zero = true
all f (suc n) = both (f n) (all f n)

all_at : (f : ℕ → Bool) (n : ℕ) → T (all f n) → (i : ℕ) → i < n → T (f i)
unfolding all
all_at f zero t i h = absurd (let z : ⊥ = omega arith in z)
all_at f (suc n) t i h = from (dec_lt i n) (all_at f n (both_yes (f n) (all f n) t).1 i)
  where
    from : Dec (i < n) → (i < n → T (f i)) → T (f i)
    from (yes g) there = there g
    from (no g) there = subst (λ (k : ℕ). T (f k)) (omega arith) (both_yes (f n) (all f n) t).0

-- Refused 8, whatever the answer is called.
eight : (s : Show) → DecisionIs s no_set_found → RefusedEight s
eight s h = record { answer = h; outcome = λ d g. ap (λ (a : Decision). verdict_outcome a.verdict) (decision_once s d no_set_found g h) }

module _ (s : Show) (e : show_check s ≡ Ok tt) (k x : ℕ) (turned : turns (load_of s) k 0 ≡ x) where
  not_past : NotPast (load_of s) x
  not_past =
      let sound = show_sound s (check_within s e) in
      subst (NotPast (load_of s)) turned (turns_below (load_of s) sound k 0 (start_below (load_of s) sound))

  -- After k turns the round takes x, which is no longer, and what it asks for fits.
  pub settles :
      T (leb (next (load_of s) x) x) → T (all (λ i. leb (needed (load_of s) i (asked (load_of s) x i)) ((load_of s).stream i).buffer) s.playing) →
      DecisionIs s (accepted_with (load_of s) (asked (load_of s) x))
  settles still fits =
      let w = check_within s e in
      let sound = show_sound s w in
      accepted (asked (load_of s) x) w
      (least_smallest (load_of s) sound x (still_least (load_of s) sound x not_past (leb→le _ _ still)) (λ i l. leb→le _ _ (all_at _ s.playing fits i l)))

  -- After k turns the count of session i does not fit.
  spills : (i : ℕ) → T (ltb i s.playing) → T (ltb ((load_of s).stream i).buffer (needed (load_of s) i (asked (load_of s) x i))) → RefusedEight s
  spills i inside over =
      let w = check_within s e in
      eight s (no_set w (unfit_refuses (load_of s) (show_sound s w) x not_past i (ltb→lt _ _ inside) (ltb→lt _ _ over)))

-- Counts whose session 0 is not ahead of its rate.
behind :
    (s : Show) → show_check s ≡ Ok tt → (m : List ℕ) → T (ltb 0 s.playing) →
    T (leb (set_of m 0 * unit (load_of s)) (((load_of s).stream 0).rate * round_time (load_of s) (set_of m))) →
    TrialIs s m (timed_as (Ok false) (load_of s) (set_of m))
behind s e m some late =
    fails (check_within s e)
    (λ g.
    let h = g.augmenting 0 (ltb→lt _ _ some) in
    let l : set_of m 0 * unit (load_of s) ≤ ((load_of s).stream 0).rate * round_time (load_of s) (set_of m) = leb→le _ _ late in
    omega arith)

-- Counts that each last so long.
lasting :
    (s : Show) (m : List ℕ) (taken each : ℕ) → round_time (load_of s) (set_of m) ≡ taken →
    T (all (λ i. eqb (set_of m i * unit (load_of s)) (((load_of s).stream i).rate * each)) s.playing) → Against s m taken each
lasting s m taken each e t = record { takes = e; lasts = λ i l. eqb→eq _ _ (all_at _ s.playing t i l) }

-- ---- no session

-- Of no session every set is the smallest, and its rows are zeros.
nobody : (s : Show) → ShowWithin s → s.playing ≡ 0 → DecisionIs s (yes_with 0 [] [])
unfolding sum_to listed padded
nobody s w e =
    subst (DecisionIs s) rows
    (accepted (λ i. 0) w
    (record {
      good = record { counted = λ i l. none i l; augmenting = λ i l. none i l; feasible = λ i l. none i l };
      least = λ o g i l. none i l;
    }))
  where
    none : {P : Type 0} (i : ℕ) → i < s.playing → P
    none i l = absurd (let f : ⊥ = omega arith in f)

    rows : accepted_with (load_of s) (λ i. 0) ≡ yes_with 0 [] []
    rows =
        ap
        (λ (n : ℕ).
        record {
          verdict = Ok tt;
          round = sum_to (λ i. ((load_of s).stream i).time 0) n;
          counts = padded 16 0 (listed (λ i. 0) n);
          times = padded 16 0 (listed (λ i. ((load_of s).stream i).time 0) n);
        })
        e

-- ---- p6

module _ (size : ℕ → ℕ) (within : (i : ℕ) → i < 10 → Between 1 (size i) buffer_most) where
  abbrev clips : ℕ → Session
  clips i = buffered (size i)

  abbrev ten : Show
  ten = show_of Z (listed clips 10)

  session_at_ten : (i : ℕ) → i < 10 → session_at ten i ≡ buffered (size i)
  session_at_ten i h =
      get_or-take 16 (listed clips 10 ++ replicate 16 no_session) i no_session (omega arith)
      ∙ get_or-append (listed clips 10) (replicate 16 no_session) no_session i (rw (listed_length clips 10) h)
      ∙ listed_at clips 10 i no_session h

  laid_within : (i : ℕ) → i < 1 → LaidWithin ten i
  laid_within zero h = omega arith
  laid_within (suc i) h = absurd (let z : ⊥ = omega arith in z)

  ten_within : ShowWithin ten
  unfolding listed
  ten_within =
      record {
        counts = omega arith;
        drive = record { block = omega arith; whole = refl; cylinder = omega arith };
        layouts = laid_within;
        sessions = λ i h. rw (session_at_ten i h) (record { rate = omega arith; cushion = omega arith; buffer = within i h; layout = omega arith });
      }

  p6_at : RefusedEight ten
  unfolding sum_to cost_of listed
  p6_at =
      eight ten
      (no_set ten_within (λ a. overload_refuses (load_of ten) (show_sound ten ten_within) (le_refl 512000000000) a.0 a.1.augmenting))

-- ---- the table

pub table : Table
unfolding worst_of show_check first_below counts? drive? layout? session? dec_lt cost_of worst_time edges ceil turns sum_to need all both listed padded
table =
    record {
      empty = nobody;
      p1 = record { one = refl; ten = refl; eleven = refl };
      p2 =
          record {
            ample = settles (show_of X (clip ∷ [])) refl 1 42000 refl tt tt;
            enough = settles (show_of X (buffered 102401 ∷ [])) refl 1 42000 refl tt tt;
            short = spills (show_of X (buffered 102400 ∷ [])) refl 0 0 refl 0 tt tt;
          };
      p3 =
          record {
            twice = settles (show_of X (replicate 3 clip)) refl 2 156000 refl tt tt;
            once = behind (show_of X (replicate 3 clip)) refl (places (replicate 3 1)) tt tt;
            against = lasting (show_of X (replicate 3 clip)) (places (replicate 3 1)) _ _ refl tt;
          };
      p4 =
          record {
            twice = settles (show_of far (replicate 2 clip)) refl 2 120000 refl tt tt;
            once = behind (show_of far (replicate 2 clip)) refl (places (replicate 2 1)) tt tt;
            against = lasting (show_of far (replicate 2 clip)) (places (replicate 2 1)) _ _ refl tt;
          };
      p5 =
          record {
            ample = settles (show_of Z (replicate 9 clip)) refl 18 2790000 refl tt tt;
            even = behind (show_of Z (replicate 9 clip)) refl (places (replicate 9 27)) tt tt;
            against = lasting (show_of Z (replicate 9 clip)) (places (replicate 9 27)) _ _ refl tt;
            enough = settles (show_of Z (replicate 9 (buffered 1484801))) refl 18 2790000 refl tt tt;
            short = spills (show_of Z (replicate 9 (buffered 1484800))) refl 18 2790000 refl 0 tt tt;
          };
      p6 = record { hundred = p6_at };
      p7 = record { under = settles (show_of Z (replicate 9 clip ++ (slower ∷ []))) refl 1970 309090000 refl tt tt };
      p8 = p8;
      uneven = uneven_starts (settles (show_of X (clip ∷ faster ∷ [])) refl 2 94000 refl tt tt);
      p9 = p9;
      p10 = p10;
    }
