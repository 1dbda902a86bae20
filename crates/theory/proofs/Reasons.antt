-- Why a load has no set: each is accepted or has a reason, and what the buffer that BUFFER names is worth. b stands for the largest
-- buffer that there is. Assumes nothing.
use Prim.Native.Nat.{ℕ, ◌*◌, ◌≤◌, ◌<◌}
use mathlib.Core.Path.{◌≡◌, refl, sym, ◌∙◌, ap}
use mathlib.Core.Logic.{◌⊎◌, inl, inr, if_pos, if_neg}
use native.Mathlib.Omega.{arith}
use native.Mathlib.Nat.{le_trans}
use native.Mathlib.Decide.{dec_le, dec_lt, ℕ_discrete}
use Rattle.show.specs.Faults.{Lowest}
use Rattle.theory.specs.Counts.{Load, Sound, unit, needed, Feasible, Good, Accepted, Smallest, whole_load, Overloaded}
use Rattle.theory.specs.Rounds.{asked, LeastTime, Fits}
use Rattle.theory.specs.Reasons.{with_buffers, widened, with_buffer, NeverKeepsUp, Beyond, TooSmall}
use Rattle.theory.proofs.Search.{all_or_lowest}
use Rattle.theory.proofs.Rounds.{feasible_below, least_time, least_smallest, accepted_has_least, unfit_refuses, smallest_once}
use Rattle.theory.proofs.Overload.{light_has_time, overloaded_exactly}

-- ---- other buffers

buffered_sound : (l : Load) (c : ℕ → ℕ) → Sound l → Sound (with_buffers c l)
buffered_sound l c s = record { block = s.block; cylinder = s.cylinder; laws = s.laws }

-- What is good with some buffers is good with others that it fits.
refitted : (l : Load) (c : ℕ → ℕ) (m : ℕ → ℕ) → Good (with_buffers c l) m → Feasible l m → Good l m
refitted l c m g f = record { counted = g.counted; augmenting = g.augmenting; feasible = f }

module _ (l : Load) (b : ℕ) (limit : (i : ℕ) → i < l.playing → (l.stream i).buffer ≤ b) where
  -- What fits a session's own buffer fits the largest.
  wide_good : (m : ℕ → ℕ) → Good l m → Good (widened b l) m
  wide_good m g =
      refitted (widened b l) (λ i. (l.stream i).buffer) m g (λ i h. le_trans (g.feasible i h) (limit i h))

  pub wide_accepted : Accepted l → Accepted (widened b l)
  wide_accepted a = (a.0, wide_good a.0 a.1)

  -- The smallest counts with the largest buffers are the answer if they fit the sessions' own,
  pub own_smallest : (m : ℕ → ℕ) → Smallest (widened b l) m → Feasible l m → Smallest l m
  own_smallest m s f =
      record { good = refitted l (λ i. b) m s.good f; least = λ o g. s.least o (wide_good o g) }

  -- and where one does not, there is no answer.
  pub too_small_refuses : (i size : ℕ) → TooSmall l b i size → Accepted l → ⊥
  too_small_refuses i size t a =
      let f = feasible_below l (t.smallest.least a.0 (wide_good a.0 a.1)) a.1.feasible i t.session in
      let e = t.exact in
      let u = t.short in
      omega arith

-- ---- the buffer that it needs

module _ (l : Load) (b : ℕ) where
  counts_once : {i x j y : ℕ} (g : TooSmall l b i x) (h : TooSmall l b j y) (k : ℕ) → k < l.playing → g.counts k ≡ h.counts k
  counts_once g h = smallest_once (widened b l) g.counts h.counts g.smallest h.smallest

  -- No session below the lowest is the lowest.
  none_lower : {i x j y : ℕ} → TooSmall l b i x → TooSmall l b j y → i < j → ⊥
  none_lower {i} g h below =
      let fits : needed l i (g.counts i) ≤ (l.stream i).buffer = rw (counts_once g h i g.session) (h.lowest i below) in
      let e = g.exact in
      let u = g.short in
      omega arith

  -- It is one session and one size.
  pub too_small_once : {i x j y : ℕ} → TooSmall l b i x → TooSmall l b j y → (i ≡ j) × (x ≡ y)
  too_small_once {i} {x} {j} {y} g h = (same, g.exact ∙ ap (needed l i) (counts_once g h i g.session) ∙ ap size same ∙ sym h.exact)
    where
      size : ℕ → ℕ
      size k = needed l k (h.counts k)

      same : i ≡ j
      same = elim (dec_lt i j) [
        | yes u ↦ absurd (none_lower g h u)
        | no u ↦ elim (dec_lt j i) [ yes o ↦ absurd (none_lower h g o) | no o ↦ omega arith ]
      ]

  -- There is a buffer of that size.
  pub size_within : (i size : ℕ) → TooSmall l b i size → size ≤ b
  size_within i size t = let f = t.smallest.good.feasible i t.session in let e = t.exact in omega arith

  -- Where each session has at least the buffer that its smallest count needs, it is a yes ..
  pub size_enough :
      (i size : ℕ) (t : TooSmall l b i size) (c : ℕ → ℕ) → ((j : ℕ) → j < l.playing → needed l j (t.counts j) ≤ c j) →
      Accepted (with_buffers c l)
  size_enough i size t c f = (t.counts, refitted (with_buffers c l) (λ j. b) t.counts t.smallest.good f)

-- .. and with less at that session a no, whatever the others have.
pub size_needed :
    (l : Load) → Sound l → (b i size : ℕ) → TooSmall l b i size → (c : ℕ → ℕ) → c i < size → Accepted (with_buffers c l) → ⊥
size_needed l s b i size t c less = unfit_refuses (with_buffers c l) (buffered_sound l c s) x.0 x.1.least i t.session short
  where
    wide : Sound (widened b l)
    wide = buffered_sound l (λ j. b) s

    x : (t : ℕ) × LeastTime (widened b l) t × Fits (widened b l) t
    x = accepted_has_least (widened b l) wide (t.counts, t.smallest.good)

    same : t.counts i ≡ asked l x.0 i
    same =
        smallest_once (widened b l) t.counts (asked l x.0) t.smallest (least_smallest (widened b l) wide x.0 x.1 x.2) i
        t.session

    short : c i < needed l i (asked l x.0 i)
    short = rw (← same, ← t.exact) less

-- ---- there is a reason

abbrev Small : Load → ℕ → Type 0
Small l b = (i : ℕ) × ((size : ℕ) × TooSmall l b i size)

-- The smallest counts with every buffer at b fit the sessions' own, or there is a lowest session whose own is too small.
fits_or_not : (l : Load) (b : ℕ) (m : ℕ → ℕ) → Smallest (widened b l) m → Accepted l ⊎ Small l b
fits_or_not l b m s = from (all_or_lowest Own (λ i. dec_le (needed l i (m i)) (l.stream i).buffer) l.playing)
  where
    Own : ℕ → Type 0
    Own i = needed l i (m i) ≤ (l.stream i).buffer

    small : (i : ℕ) → Lowest Own l.playing i → TooSmall l b i (needed l i (m i))
    small i f =
        record {
          counts = m;
          smallest = s;
          session = f.inside;
          exact = refl;
          short = (let u = f.fails in omega arith);
          lowest = f.before;
        }

    from : Feasible l m ⊎ ((i : ℕ) × Lowest Own l.playing i) → Accepted l ⊎ Small l b
    from (inl f) = inl (m, refitted l (λ i. b) m s.good f)
    from (inr f) = inr (f.0, (needed l f.0 (m f.0), small f.0 f.1))

-- The test for overload, then the least time with every buffer at b, then the sessions' own buffers.
pub reason_some :
    (l : Load) → Sound l → (b : ℕ) →
    Accepted l ⊎ (NeverKeepsUp l ⊎ (Beyond l b ⊎ ((i : ℕ) × ((size : ℕ) × TooSmall l b i size))))
reason_some l s b = loaded (dec_le (l.cylinder * unit l) (whole_load l))
  where
    wide : Sound (widened b l)
    wide = buffered_sound l (λ i. b) s

    Wide : ℕ → ℕ → Type 0
    Wide t i = needed l i (asked l t i) ≤ b

    own : Accepted l ⊎ Small l b → Accepted l ⊎ (NeverKeepsUp l ⊎ (Beyond l b ⊎ Small l b))
    own (inl a) = inl a
    own (inr t) = inr (inr (inr t))

    held : (Overloaded l → ⊥) → (t : ℕ) → LeastTime (widened b l) t → Fits (widened b l) t ⊎ ((i : ℕ) × Lowest (Wide t) l.playing i) →
        Accepted l ⊎ (NeverKeepsUp l ⊎ (Beyond l b ⊎ Small l b))
    held light t h (inl f) = own (fits_or_not l b (asked l t) (least_smallest (widened b l) wide t h f))
    held light t h (inr f) =
        inr (inr (inl (record {
          keeps = λ never. light ((overloaded_exactly l s).1 never);
          refused = unfit_refuses (widened b l) wide t h.least f.0 f.1.inside (let u = f.1.fails in omega arith);
        })))

    loaded : Dec (Overloaded l) → Accepted l ⊎ (NeverKeepsUp l ⊎ (Beyond l b ⊎ Small l b))
    loaded (yes full) = inr (inl ((overloaded_exactly l s).0 full))
    loaded (no light) =
        let x = light_has_time l s light in
        let t = least_time (widened b l) wide x.0 x.1 in
        held light t.0 t.1 (all_or_lowest (Wide t.0) (λ i. dec_le (needed l i (asked l t.0 i)) b) l.playing)

-- ---- asked again

module _ (l : Load) (b : ℕ) where
  -- No session up to the one that got its buffer is too small now.
  higher : {i size own j more : ℕ} → TooSmall l b i size → size ≤ own → TooSmall (with_buffer i own l) b j more → i < j
  higher {i} {size} {own} {j} t enough u = elim (dec_lt i j) [ yes above ↦ above | no up ↦ absurd (none (omega arith)) ]
    where
      fits : Dec (j ≡ i) → j ≤ i → needed l j (t.counts j) ≤ ((with_buffer i own l).stream j).buffer
      fits (yes e) up = rw (if_pos (ℕ_discrete j i) e own (l.stream j).buffer, e, ← t.exact) enough
      fits (no e) up = rw (if_neg (ℕ_discrete j i) e own (l.stream j).buffer) (t.lowest j (omega arith))

      none : j ≤ i → ⊥
      none up =
          let same = smallest_once (widened b l) t.counts u.counts t.smallest u.smallest j u.session in
          let f : needed l j (u.counts j) ≤ ((with_buffer i own l).stream j).buffer = rw (← same) (fits (ℕ_discrete j i) up) in
          let e = u.exact in
          let short = u.short in
          omega arith

  -- Give that session that buffer, or a larger one, and ask again: a yes, or a higher session.
  pub ask_again :
      (i size : ℕ) → TooSmall l b i size → (own : ℕ) → size ≤ own →
      Accepted (with_buffer i own l) ⊎ ((j : ℕ) × ((more : ℕ) × ((i < j) × TooSmall (with_buffer i own l) b j more)))
  ask_again i size t own enough = elim (fits_or_not (with_buffer i own l) b t.counts t.smallest) [
    | inl a ↦ inl a
    | inr u ↦ inr (u.0, (u.1.0, (higher t enough u.1.1, u.1.1)))
  ]
