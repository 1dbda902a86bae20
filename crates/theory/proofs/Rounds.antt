-- The bridge between sets of counts and round times, R1 to R5, and what the verdict's loop cites. Of the bound `rises` is cited.
-- Assumes nothing.
use Prim.Native.Nat.{ℕ, zero, suc, ◌+◌, ◌*◌, ◌/◌, ◌≤◌, ◌<◌}
use mathlib.Core.Path.{◌≡◌, ◌∙◌, ap}
use native.Mathlib.Omega.{arith}
use native.Mathlib.Nat.{le_refl, le_trans, le_antisymm, lt_of_le_of_lt}
use native.Mathlib.Nat.{mul-add, mul_left_comm, mul-le-mul, mul-le-mul_left, mul-le-mul_right, mul-add-div, div-lt_iff_lt-mul}
use native.Mathlib.Decide.{dec_le}
use Rattle.show.specs.Limits.{block_least, buffer_most}
use Rattle.cost.specs.Bound.{count_most}
use Rattle.cost.proofs.Bound.{bound_grows}
use Rattle.theory.specs.Counts.{Load, Sound, unit, round_time, needed, Augmenting, Feasible, Good, Accepted, Smallest}
use Rattle.theory.specs.Rounds.{need, asked, next, turns, Sustains, Fits, NotPast, LeastTime}
use Rattle.theory.proofs.Sum.{sum_grows, sum_same}
use Rattle.theory.proofs.Search.{least_of}

-- N1: m D > R t exactly if m is at least need t.
pub need_enough : (r D t m : ℕ) → 1 ≤ D → need r D t ≤ m → r * t < m * D
unfolding need
need_enough r D t m h g = (div-lt_iff_lt-mul h).0 (omega arith)

pub need_least : (r D t m : ℕ) → 1 ≤ D → r * t < m * D → need r D t ≤ m
unfolding need
need_least r D t m h g = let d : r * t / D < m = (div-lt_iff_lt-mul h).1 g in omega arith

-- N2: what the code computes of a time D q + p where R x t need not fit 64 bits.
pub need_split : (r D q p : ℕ) → 1 ≤ D → need r D (D * q + p) ≡ r * q + r * p / D + 1
unfolding need
need_split r D q p h =
    ap (λ (x : ℕ). x / D + 1) (mul-add r (D * q) p ∙ ap (λ (x : ℕ). x + r * p) (mul_left_comm r D q))
    ∙ ap (λ (x : ℕ). x + 1) (mul-add-div h (r * q) (r * p))

-- need grows with the rate and with the time.
pub need_grows : (D : ℕ) {r s t x : ℕ} → 1 ≤ D → r ≤ s → t ≤ x → need r D t ≤ need s D x
need_grows D {r} {s} {t} {x} h p q =
    need_least r D t (need s D x) h (lt_of_le_of_lt (mul-le-mul p q) (need_enough s D x (need s D x) h (le_refl (need s D x))))

pub need_some : (r D t : ℕ) → 1 ≤ need r D t
unfolding need
need_some r D t = omega arith

-- What fits leaves room for less.
pub feasible_below : (l : Load) {m o : ℕ → ℕ} → ((i : ℕ) → i < l.playing → m i ≤ o i) → Feasible l o → Feasible l m
feasible_below l {m} {o} h f i b =
    let p : (m i + 1) * l.block ≤ (o i + 1) * l.block = mul-le-mul_right l.block (let q = h i b in omega arith) in
    let g = f i b in
    omega arith

-- A count that fits a buffer, with a block more, is below the most that a buffer holds.
pub count_capped : (m A Y B : ℕ) → block_least ≤ A → B ≤ buffer_most → (m + 1) * A + Y ≤ B → m < count_most
count_capped m A Y B h g f =
    let p : (m + 1) * block_least ≤ (m + 1) * A = mul-le-mul_left (m + 1) h in omega arith

module _ (l : Load) (s : Sound l) where
  pub unit_some : 1 ≤ unit l
  unit_some = let h = s.block in omega arith

  -- No smaller counts make no shorter round.
  pub round_grows : (m o : ℕ → ℕ) → ((i : ℕ) → i < l.playing → m i ≤ o i) → round_time l m ≤ round_time l o
  round_grows m o h = sum_grows _ _ l.playing (λ i b. bound_grows (s.laws i b) (m i) (o i) (h i b))

  pub next_grows : (t x : ℕ) → t ≤ x → next l t ≤ next l x
  next_grows t x h = round_grows (asked l t) (asked l x) (λ i b. need_grows (unit l) unit_some (le_refl (l.stream i).rate) h)

  -- R1: the round of an augmenting set asks for that set at most, and so sustains itself.
  pub round_asks : (m : ℕ → ℕ) → Augmenting l m → (i : ℕ) → i < l.playing → asked l (round_time l m) i ≤ m i
  round_asks m a i b = need_least (l.stream i).rate (unit l) (round_time l m) (m i) unit_some (a i b)

  pub round_sustains : (m : ℕ → ℕ) → Augmenting l m → Sustains l (round_time l m)
  round_sustains m a = round_grows (asked l (round_time l m)) m (round_asks m a)

  -- R2: what a time that sustains asks for is augmenting, and no longer than that time.
  pub asked_augmenting : (t : ℕ) → Sustains l t → Augmenting l (asked l t)
  asked_augmenting t h i b =
      lt_of_le_of_lt (mul-le-mul_left (l.stream i).rate h)
      (need_enough (l.stream i).rate (unit l) t (asked l t i) unit_some (le_refl (asked l t i)))

  pub asked_good : (t : ℕ) → Sustains l t → Fits l t → Good l (asked l t)
  asked_good t h f =
      record {
        counted = λ i b. need_some (l.stream i).rate (unit l) t;
        augmenting = asked_augmenting t h;
        feasible = f;
      }

  -- R3: accepted exactly if some time sustains and fits.
  pub accepted_has_time : Accepted l → (t : ℕ) × Sustains l t × Fits l t
  accepted_has_time a =
      let m = a.0 in
      let g = a.1 in
      (round_time l m, round_sustains m g.augmenting, feasible_below l (round_asks m g.augmenting) g.feasible)

  pub time_accepts : (t : ℕ) → Sustains l t → Fits l t → Accepted l
  time_accepts t h f = (asked l t, asked_good t h f)

  -- Where any time sustains there is a least.
  pub least_time : (x : ℕ) → Sustains l x → (t : ℕ) × LeastTime l t
  least_time x h =
      let r = least_of (Sustains l) (λ t. dec_le (next l t) t) x h in
      (r.0, record { sustains = r.1; least = r.2 })

  -- R4: what the least time asks for is augmenting, is at most every augmenting set, and its round takes that time exactly.
  pub least_augmenting : (t : ℕ) → LeastTime l t → Augmenting l (asked l t)
  least_augmenting t h = asked_augmenting t h.sustains

  pub least_below :
      (t : ℕ) → NotPast l t → (m : ℕ → ℕ) → Augmenting l m → (i : ℕ) → i < l.playing → asked l t i ≤ m i
  least_below t h m a i b =
      le_trans (need_grows (unit l) unit_some (le_refl (l.stream i).rate) (h (round_time l m) (round_sustains m a))) (round_asks m a i b)

  pub least_round : (t : ℕ) → LeastTime l t → round_time l (asked l t) ≡ t
  least_round t h = le_antisymm h.sustains (h.least (next l t) (round_sustains (asked l t) (least_augmenting t h)))

  -- R5: accepted exactly if the least time exists and fits, and what it asks for is the answer.
  pub least_smallest : (t : ℕ) → LeastTime l t → Fits l t → Smallest l (asked l t)
  least_smallest t h f =
      record { good = asked_good t h.sustains f; least = λ m g. least_below t h.least m g.augmenting }

  pub accepted_has_least : Accepted l → (t : ℕ) × LeastTime l t × Fits l t
  accepted_has_least a =
      let x = accepted_has_time a in
      let r = least_time x.0 x.1 in
      (r.0, r.1, feasible_below l (λ i b. need_grows (unit l) unit_some (le_refl (l.stream i).rate) (r.1.least x.0 x.1)) x.2)

  -- A search: t starts at 0 and becomes next t until it grows no more. It is never above a time that sustains.
  pub start_below : NotPast l 0
  start_below x h = omega arith

  pub next_below : (t : ℕ) → NotPast l t → NotPast l (next l t)
  next_below t below x h = le_trans (next_grows t x (below x h)) h

  pub still_least : (t : ℕ) → NotPast l t → next l t ≤ t → LeastTime l t
  still_least t below h = record { sustains = h; least = below }

  pub turns_below : (k t : ℕ) → NotPast l t → NotPast l (turns l k t)
  unfolding turns
  turns_below zero t below = below
  turns_below (suc k) t below = turns_below k (next l t) (next_below t below)

  -- Of an accepted show it asks for nothing that does not fit: so where it does, no set is good.
  pub accepted_fits : (t : ℕ) → NotPast l t → Accepted l → Fits l t
  accepted_fits t below a = feasible_below l (least_below t below a.0 a.1.augmenting) a.1.feasible

  pub unfit_refuses :
      (t : ℕ) → NotPast l t → (i : ℕ) → i < l.playing →
      (l.stream i).buffer < needed l i (asked l t i) → Accepted l → ⊥
  unfit_refuses t below i b u a = let f = accepted_fits t below a i b in omega arith

-- There is one smallest set.
pub smallest_once : (l : Load) (m o : ℕ → ℕ) → Smallest l m → Smallest l o → (i : ℕ) → i < l.playing → m i ≡ o i
smallest_once l m o p q i b = le_antisymm (p.least o q.good i b) (q.least m p.good i b)

-- What holds of a set holds of one that agrees with it at every session: the code's array of counts.
pub round_same : (l : Load) (m o : ℕ → ℕ) → ((i : ℕ) → i < l.playing → m i ≡ o i) → round_time l m ≡ round_time l o
round_same l m o h = sum_same _ _ l.playing (λ i b. ap (l.stream i).time (h i b))

pub good_same : (l : Load) (m o : ℕ → ℕ) → ((i : ℕ) → i < l.playing → m i ≡ o i) → Good l m → Good l o
good_same l m o h g =
    record {
      counted = λ i b. rw (← h i b) (g.counted i b);
      augmenting = λ i b. rw (← h i b, ← round_same l m o h) (g.augmenting i b);
      feasible = λ i b. rw (← h i b) (g.feasible i b);
    }

pub smallest_same : (l : Load) (m o : ℕ → ℕ) → ((i : ℕ) → i < l.playing → m i ≡ o i) → Smallest l m → Smallest l o
smallest_same l m o h s =
    record { good = good_same l m o h s.good; least = λ u g i b. rw (← h i b) (s.least u g i b) }
