-- Sets as rows: the counts that a time asks for, and the times of given counts. Assumes nothing.
use Rattle.std.specs.Prelude.{Ok}
use Prim.Native.Nat.{ℕ, ◌+◌, ◌*◌, ◌≤◌, ◌<◌}
use mathlib.Core.Path.{◌≡◌, sym, ◌∙◌, ap}
use mathlib.Core.List.{List}
use native.Mathlib.Omega.{arith}
use lib.ListN.{set}
use Rattle.show.specs.declared.Layout.{Layout}
use Rattle.show.specs.declared.Show.{Show}
use Rattle.show.specs.Limits.{Between, LayoutWithin, ShowWithin, layout_at, session_at}
use Rattle.show.specs.Lists.{listed, padded}
use Rattle.show.proofs.Lists.{filled_more, filled_at, listed_same}
use Rattle.cost.specs.Bound.{worst_time}
use Rattle.cost.specs.declared.Cost.{Cost}
use Rattle.cost.specs.Costs.{read_cost}
use Rattle.cost.specs.WorstTimes.{takes_of}
use Rattle.cost.proofs.Bound.{worst_below}
use Rattle.cost.proofs.Costs.{cost_read, read_limited}
use Rattle.cost.proofs.WorstTimes.{takes_known}
use Rattle.theory.specs.Sum.{sum_to}
use Rattle.theory.specs.Counts.{Load, Smallest}
use Rattle.theory.specs.Shows.{load_of}
use Rattle.theory.proofs.Sum.{sum_none, sum_more}
use Rattle.theory.proofs.Rounds.{smallest_same}
use Rattle.verdict.specs.Answers.{row, times_of, set_of}
use Rattle.verdict.specs.Steps.{time_most}

-- ---- the counts that a time asks for

-- A row of numbers up to session i.
pub record Filled (s : Show) (f : ℕ → ℕ) (out : List ℕ) (i : ℕ) : Type 0 where
  pub inside : i ≤ s.playing
  pub filled : out ≡ padded 16 0 (listed f i)

module _ (s : Show) (f : ℕ → ℕ) where
  pub row_begun : (out : List ℕ) → out ≡ padded 16 0 (listed f 0) → Filled s f out 0
  row_begun out e = record { inside = omega arith; filled = e }

  pub row_body :
      (out : List ℕ) (i x : ℕ) → ShowWithin s → Filled s f out i → i < s.playing → x ≡ f i → Filled s f (set out i x) (i + 1)
  row_body out i x w h l e =
      record {
        inside = omega arith;
        filled = rw (h.filled, e) (filled_more 16 0 f i (let a = w.counts.sessions in omega arith));
      }

  pub row_ended : (out : List ℕ) (i : ℕ) → Filled s f out i → s.playing ≤ i → out ≡ row (load_of s) f
  row_ended out i h l = h.filled ∙ ap (λ (n : ℕ). padded 16 0 (listed f n)) (let a = h.inside in omega arith)

-- ---- the times of given counts

pub record TimedTo (s : Show) (f : ℕ → ℕ) (sum : ℕ) (out : List ℕ) (i : ℕ) : Type 0 where
  pub times : Filled s f out i
  pub adds : sum ≡ sum_to f i
  pub small : sum ≤ i * time_most

pub times_begun : (s : Show) (f : ℕ → ℕ) (out : List ℕ) → out ≡ padded 16 0 (listed f 0) → TimedTo s f 0 out 0
times_begun s f out e = record { times = row_begun s f out e; adds = sym (sum_none f); small = omega arith }

pub times_body :
    (s : Show) (f : ℕ → ℕ) (sum : ℕ) (out : List ℕ) (i u : ℕ) → ShowWithin s → TimedTo s f sum out i → i < s.playing →
    u ≡ f i → u ≤ time_most → TimedTo s f (sum + u) (set out i u) (i + 1)
times_body s f sum out i u w h l e g =
    record {
      times = row_body s f out i u w h.times l e;
      adds = (let a = h.adds in omega (arith, sum_more f i));
      small = (let a = h.small in omega arith);
    }

-- What `takes` answers of reads on a layout within its limits: U, small enough for the sum of a round.
pub takes_told :
    (x : Layout) (N n : ℕ) → LayoutWithin x → Between 1 N 65536 → n ≤ 4294967295 →
    (takes_of (read_cost x) N n ≡ Ok (worst_time N (read_cost x) n)) × (worst_time N (read_cost x) n ≤ time_most)
takes_told x N n w b few =
    let l = read_limited x w in (takes_known _ _ _ b l, worst_below N 4294967295 _ l n few)

-- U of a session is that of reads on its layout.
pub time_same : (s : Show) (i n : ℕ) → worst_time s.drive.cylinder (read_cost (layout_at s (session_at s i).layout)) n ≡ ((load_of s).stream i).time n
time_same s i n = ap (λ (c : Cost). worst_time s.drive.cylinder c n) (cost_read s i)

-- ---- rows as sets

-- A row, read as a set, is what it was filled with.
pub set_of_row : (l : Load) (f : ℕ → ℕ) (i : ℕ) → i < l.playing → set_of (row l f) i ≡ f i
set_of_row l f i h = filled_at 16 0 f l.playing i 0 h

-- So the smallest set, as a row, is the smallest.
pub row_smallest : (l : Load) (m : ℕ → ℕ) → Smallest l m → Smallest l (set_of (row l m))
row_smallest l m = smallest_same l m (set_of (row l m)) (λ i h. sym (set_of_row l m i h))

pub times_same : (l : Load) (m o : ℕ → ℕ) → ((i : ℕ) → i < l.playing → m i ≡ o i) → times_of l m ≡ times_of l o
times_same l m o h = ap (padded 16 0) (listed_same _ _ l.playing (λ i g. ap (l.stream i).time (h i g)))
