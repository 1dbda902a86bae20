-- The costs of a show within its limits, and the laws of U for its sessions. Assumes nothing.
use Prim.Native.Nat.{ℕ, ◌+◌, ◌*◌, ◌≤◌, ◌<◌}
use mathlib.Core.Path.{◌≡◌, refl, ap, ◌∙◌}
use native.Mathlib.Omega.{arith}
use Rattle.show.specs.declared.Layout.{Layout}
use Rattle.show.specs.declared.Show.{Show}
use Rattle.show.specs.Limits.{LayoutWithin, ShowWithin, Alike, layout_at, session_at}
use Rattle.cost.specs.Bound.{Modest, Limited, Cheaper, BoundLaws, ceil, edges, worst_time, weight, surplus_of}
use Rattle.cost.specs.Costs.{read_cost, cost_of}
use Rattle.cost.proofs.Bound.{worst_laws}

-- The rule's line: longest seek + n x block time + (n/N rounded up) x one-track seek + 2 x rotation.
pub read_time :
    (N : ℕ) (y : Layout) (n : ℕ) →
    worst_time N (read_cost y) n ≡ y.longest + n * y.time + ceil n N * y.track + 2 * y.rotation
unfolding worst_time edges
read_time N y n = omega arith

read_modest : (y : Layout) → LayoutWithin y → Modest (read_cost y)
read_modest y w = omega arith

pub read_limited : (y : Layout) → LayoutWithin y → Limited (read_cost y)
read_limited y w = omega arith

-- No time of a layout longer: no cost larger.
pub read_cheaper :
    (x y : Layout) → x.longest ≤ y.longest → x.track ≤ y.track → x.time ≤ y.time → x.rotation ≤ y.rotation →
    Cheaper (read_cost x) (read_cost y)
read_cheaper x y l t b r = omega arith

-- A session's operations are reads on its layout.
pub cost_read : (s : Show) (i : ℕ) → read_cost (layout_at s (session_at s i).layout) ≡ cost_of s i
unfolding cost_of
cost_read s i = refl

module _ (s : Show) (w : ShowWithin s) (i : ℕ) (l : i < s.playing) where
  -- the layout of a session that plays, which has a place
  pub laid_below : (session_at s i).layout < 8
  laid_below = let a = (w.sessions i l).layout in let b = w.counts.layouts.high in omega arith

  pub layout_within : LayoutWithin (layout_at s (session_at s i).layout)
  layout_within = w.layouts (session_at s i).layout (w.sessions i l).layout

  pub cost_modest : Modest (cost_of s i)
  unfolding cost_of
  cost_modest = read_modest _ layout_within

  pub cost_limited : Limited (cost_of s i)
  unfolding cost_of
  cost_limited = read_limited _ layout_within

  -- U of each session has the laws.
  pub session_laws : BoundLaws s.drive.cylinder (weight s.drive.cylinder (cost_of s i)) (surplus_of s.drive.cylinder (cost_of s i)) (worst_time s.drive.cylinder (cost_of s i))
  session_laws = worst_laws s.drive.cylinder w.drive.cylinder.low (cost_of s i) cost_modest

-- Shows that agree below their counts have the same costs there.
pub alike_cost : (s t : Show) → Alike s t → ShowWithin s → (i : ℕ) → i < s.playing → cost_of s i ≡ cost_of t i
unfolding cost_of
alike_cost s t a w i l =
    ap read_cost (a.layouts (session_at s i).layout (w.sessions i l).layout) ∙ rw (a.sessions i l)
