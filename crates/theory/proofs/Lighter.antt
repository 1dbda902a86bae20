-- A lighter load stays accepted, with no larger counts, no longer a round and no more to do. Of U the law `rises` is cited. Assumes
-- nothing.
use Prim.Native.Nat.{ℕ, ◌*◌, ◌/◌, ◌≤◌, ◌<◌}
use mathlib.Core.Path.{◌≡◌, sym, ◌∙◌, ap}
use native.Mathlib.Omega.{arith}
use native.Mathlib.Nat.{le_refl, le_of_eq, le_trans, lt_of_le_of_lt, mul-le-mul, mul-le-mul_right, div-zero, div-mul-le_self, le-div_iff_mul-le}
use native.Mathlib.Decide.{dec_lt}
use Rattle.cost.proofs.Bound.{bound_grows}
use Rattle.theory.specs.Counts.{Stream, Load, Sound, unit, round_time, Augmenting, Feasible, Good, Accepted, Smallest, whole_load}
use Rattle.theory.specs.Lighter.{Light, Lighter}
use Rattle.theory.specs.Reasons.{tenths}
use Rattle.theory.proofs.Sum.{sum_grows, sum_part}
use Rattle.theory.proofs.Rounds.{round_grows}

div_grows : (k : ℕ) {m n : ℕ} → m ≤ n → m / k ≤ n / k
div_grows k {m} {n} h = elim (dec_lt 0 k) [
  | yes some ↦ (le-div_iff_mul-le some).1 (le_trans (div-mul-le_self m k) h)
  | no none ↦ let z : k ≡ 0 = omega arith in rw (z, div-zero m, div-zero n) (le_refl 0)
]

light_then : (c d f : Stream) → Light c d → Light d f → Light c f
light_then c d f p q =
    record {
      rate = le_trans p.rate q.rate;
      cushion = le_trans p.cushion q.cushion;
      buffer = le_trans q.buffer p.buffer;
      time = λ n. le_trans (p.time n) (q.time n);
    }

-- Loads with the same sessions are no harder than each other.
pub same_lighter :
    (a b : Load) → a.block ≡ b.block → a.playing ≡ b.playing → ((i : ℕ) → i < a.playing → a.stream i ≡ b.stream i) →
    Lighter a b (λ i. i)
same_lighter a b e f same =
    record {
      block = e;
      inside = λ i h. rw f at h;
      rising = λ i j h g. h;
      stream = λ i h.
          (let s = same i h in
          record {
            rate = le_of_eq (ap (λ (x : Stream). x.rate) s);
            cushion = le_of_eq (ap (λ (x : Stream). x.cushion) s);
            buffer = le_of_eq (ap (λ (x : Stream). x.buffer) (sym s));
            time = λ n. le_of_eq (ap (λ (x : Stream). x.time n) s);
          });
    }

-- Two steps are one.
pub lighter_then : (a b c : Load) (e f : ℕ → ℕ) → Lighter a b e → Lighter b c f → Lighter a c (λ i. f (e i))
lighter_then a b c e f p q =
    record {
      block = p.block ∙ q.block;
      inside = λ i h. q.inside (e i) (p.inside i h);
      rising = λ i j h g. q.rising (e i) (e j) (p.rising i j h g) (p.inside j g);
      stream = λ i h.
          light_then (a.stream i) (b.stream (e i)) (c.stream (f (e i))) (p.stream i h) (q.stream (e i) (p.inside i h));
    }

module _ (a b : Load) (e : ℕ → ℕ) (t : Lighter a b e) where
  -- The same counts make no longer a round.
  pub lighter_round : (m : ℕ → ℕ) → round_time a (λ i. m (e i)) ≤ round_time b m
  lighter_round m =
      le_trans (sum_grows _ (λ i. (b.stream (e i)).time (m (e i))) a.playing (λ i h. (t.stream i h).time (m (e i))))
      (sum_part (λ j. (b.stream j).time (m j)) e a.playing b.playing t.inside t.rising)

  pub lighter_augmenting : (m : ℕ → ℕ) → Augmenting b m → Augmenting a (λ i. m (e i))
  lighter_augmenting m g i h =
      rw t.block (lt_of_le_of_lt (mul-le-mul (t.stream i h).rate (lighter_round m)) (g (e i) (t.inside i h)))

  lighter_feasible : (m : ℕ → ℕ) → Feasible b m → Feasible a (λ i. m (e i))
  lighter_feasible m g i h =
      rw t.block
      (let f = g (e i) (t.inside i h) in let c = (t.stream i h).cushion in let d = (t.stream i h).buffer in omega arith)

  -- A good set of the heavier load, at the sessions that are left, is a good set of the lighter.
  pub lighter_good : (m : ℕ → ℕ) → Good b m → Good a (λ i. m (e i))
  lighter_good m g =
      record {
        counted = λ i h. g.counted (e i) (t.inside i h);
        augmenting = lighter_augmenting m g.augmenting;
        feasible = lighter_feasible m g.feasible;
      }

  pub lighter_accepted : Accepted b → Accepted a
  lighter_accepted g = ((λ i. g.0 (e i)), lighter_good g.0 g.1)

  -- No count grows.
  pub lighter_counts : (p m : ℕ → ℕ) → Smallest a p → Smallest b m → (i : ℕ) → i < a.playing → p i ≤ m (e i)
  lighter_counts p m x y i h = x.least (λ j. m (e j)) (lighter_good m y.good) i h

  module _ (s : Sound a) where
    -- Nor does a session's time in the round ..
    pub lighter_times :
        (p m : ℕ → ℕ) → Smallest a p → Smallest b m → (i : ℕ) → i < a.playing → (a.stream i).time (p i) ≤ (b.stream (e i)).time (m (e i))
    lighter_times p m x y i h =
        le_trans (bound_grows (s.laws i h) (p i) (m (e i)) (lighter_counts p m x y i h)) ((t.stream i h).time (m (e i)))

    -- .. or the round.
    pub lighter_rounds : (p m : ℕ → ℕ) → Smallest a p → Smallest b m → round_time a p ≤ round_time b m
    lighter_rounds p m x y = le_trans (round_grows a s p (λ i. m (e i)) (lighter_counts p m x y)) (lighter_round m)

  -- No weight larger: it has no more to do.
  pub lighter_load : ((i : ℕ) → i < a.playing → (a.stream i).weight ≤ (b.stream (e i)).weight) → whole_load a ≤ whole_load b
  lighter_load weight =
      le_trans
      (sum_grows _ (λ i. (b.stream (e i)).rate * (b.stream (e i)).weight) a.playing
      (λ i h. mul-le-mul (t.stream i h).rate (weight i h)))
      (sum_part (λ j. (b.stream j).rate * (b.stream j).weight) e a.playing b.playing t.inside t.rising)

-- On the same drive the tenths go with the load.
pub tenths_grow : (a b : Load) → a.cylinder ≡ b.cylinder → a.block ≡ b.block → whole_load a ≤ whole_load b → tenths a ≤ tenths b
unfolding tenths
tenths_grow a b cylinder block h = rw (cylinder, block) (div_grows (b.cylinder * unit b) (mul-le-mul_right 1000 h))
