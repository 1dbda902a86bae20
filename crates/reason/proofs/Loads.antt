-- The load of a show, added up and divided within 64 bits. Assumes nothing.
use Prim.Native.Nat.{ℕ, zero, suc, ◌+◌, ◌*◌, ◌/◌, ◌%◌, ◌≤◌, ◌<◌}
use mathlib.Core.Path.{◌≡◌, sym, ◌∙◌, ap}
use mathlib.Core.Logic.{◌↔◌}
use native.Mathlib.Omega.{arith}
use native.Mathlib.Nat.{
  le_trans,
  mul-add,
  mul_assoc,
  mul_left_comm,
  mul-le-mul,
  mul-le-mul_left,
  mul-pos,
  mul-add-div,
  mul-add-mod_self_left,
  div-add-mod,
  div-le_self,
  le-div_iff_mul-le,
  mod-lt,
}
use Rattle.show.specs.declared.Show.{Show}
use Rattle.show.specs.Limits.{ShowWithin, block_most, rate_most, session_at}
use Rattle.cost.specs.declared.Cost.{Cost}
use Rattle.cost.specs.Bound.{each_most, cross_most}
use Rattle.cost.specs.Costs.{cost_of}
use Rattle.cost.proofs.Costs.{cost_limited}
use Rattle.theory.specs.Sum.{sum_to}
use Rattle.theory.specs.Counts.{Load, unit, whole_load, Overloaded}
use Rattle.theory.specs.Reasons.{tenths}
use Rattle.theory.specs.Shows.{load_of}
use Rattle.theory.proofs.Sum.{sum_none, sum_more}
use Rattle.reason.specs.Steps.{blocks_at, edges_at, sums_of, SumsSmall, work_of, WorkSmall}
use Rattle.reason.specs.declared.work.Sums.{Sums}
use Rattle.reason.specs.declared.work.Work.{Work}

-- ---- the two sums

-- Those of the first i sessions.
pub record SumsTo (s : Show) (blocks edges i : ℕ) : Type 0 where
  pub inside : i ≤ s.playing
  pub blocks_are : blocks ≡ sum_to (blocks_at s) i
  pub edges_are : edges ≡ sum_to (edges_at s) i
  pub blocks_few : blocks ≤ i * (rate_most * each_most)
  pub edges_few : edges ≤ i * (rate_most * cross_most)

pub sums_begun : (s : Show) → SumsTo s 0 0 0
sums_begun s =
    record {
      inside = omega arith;
      blocks_are = sym (sum_none (blocks_at s));
      edges_are = sym (sum_none (edges_at s));
      blocks_few = omega arith;
      edges_few = omega arith;
    }

-- Session i, whose operations cost x.
module _ (s : Show) (w : ShowWithin s) (i : ℕ) (l : i < s.playing) (x : Cost) (e : x ≡ cost_of s i) where
  -- It adds this much at most.
  pub blocks_capped : (session_at s i).rate * x.each ≤ rate_most * each_most
  blocks_capped = rw e (mul-le-mul (w.sessions i l).rate.high (cost_limited s w i l).each)

  pub edges_capped : (session_at s i).rate * x.cross ≤ rate_most * cross_most
  edges_capped = rw e (mul-le-mul (w.sessions i l).rate.high (cost_limited s w i l).cross)

  pub sums_body :
      (blocks edges : ℕ) → SumsTo s blocks edges i →
      SumsTo s (blocks + (session_at s i).rate * x.each) (edges + (session_at s i).rate * x.cross) (i + 1)
  sums_body blocks edges h =
      let b = blocks_capped in
      let d = edges_capped in
      let p = h.blocks_few in
      let q = h.edges_few in
      record {
        inside = omega arith;
        blocks_are = rw (e, h.blocks_are) (sym (sum_more (blocks_at s) i));
        edges_are = rw (e, h.edges_are) (sym (sum_more (edges_at s) i));
        blocks_few = omega arith;
        edges_few = omega arith;
      }

-- ---- the load, by the two

module _ (s : Show) where
  parts_to :
      (n : ℕ) → sum_to (λ i. ((load_of s).stream i).rate * ((load_of s).stream i).weight) n ≡
      s.drive.cylinder * sum_to (blocks_at s) n + sum_to (edges_at s) n
  unfolding sum_to
  parts_to zero = omega arith
  parts_to (suc n) =
      let r = (session_at s n).rate in
      let N = s.drive.cylinder in
      let c = cost_of s n in
      omega (
        arith,
        parts_to n,
        mul-add r (N * c.each) c.cross,
        mul_left_comm r N c.each,
        mul-add N (sum_to (blocks_at s) n) (r * c.each),
      )

  -- N times the first and the second.
  load_parts : whole_load (load_of s) ≡ s.drive.cylinder * (sums_of s).blocks + (sums_of s).edges
  load_parts = parts_to s.playing

-- Divided by N x D: the first sum by D, and what is left of it beside the second.
module _ (N D X Y : ℕ) (some : 1 ≤ N * D) where
  split : N * X + Y ≡ N * D * (X / D) + (N * (X % D) + Y)
  split =
      let e = ap (λ (x : ℕ). N * x) (div-add-mod X D) in
      omega (arith, mul-add N (D * (X / D)) (X % D), mul_assoc N D (X / D))

  wholes : (N * X + Y) / (N * D) ≡ X / D + (N * (X % D) + Y) / (N * D)
  wholes = ap (λ (x : ℕ). x / (N * D)) split ∙ mul-add-div some (X / D) (N * (X % D) + Y)

  parts : (N * X + Y) % (N * D) ≡ (N * (X % D) + Y) % (N * D)
  parts = ap (λ (x : ℕ). x % (N * D)) split ∙ mul-add-mod_self_left (N * D) (X / D) (N * (X % D) + Y)

module _ (s : Show) (w : ShowWithin s) (x : Sums) (g : SumsSmall x) where
  abbrev cylinder : ℕ
  cylinder = s.drive.cylinder

  abbrev block : ℕ
  block = s.drive.block * 1000000

  pub full_some : 1 ≤ cylinder * block
  full_some = mul-pos w.drive.cylinder.low (let h = w.drive.block.low in omega arith)

  pub full_capped : cylinder * block ≤ 4294967296000000
  full_capped =
      let h : block ≤ block_most * 1000000 = (let b = w.drive.block.high in omega arith) in mul-le-mul w.drive.cylinder.high h

  pub left_capped : cylinder * (x.blocks % block) ≤ 4294967296000000
  left_capped =
      le_trans (mul-le-mul_left cylinder (let h = mod-lt x.blocks {m = block} (let b = w.drive.block.low in omega arith) in omega arith)) full_capped

  abbrev left : ℕ
  left = cylinder * (x.blocks % block) + x.edges

  pub whole_capped : x.blocks / block + left / (cylinder * block) ≤ 11000000000000000
  whole_capped =
      let a = div-le_self x.blocks block in
      let b = div-le_self left (cylinder * block) in
      let c = left_capped in
      let d = g.blocks in
      let f = g.edges in
      omega arith

  -- What is divided so is the load.
  pub weighed :
      x ≡ sums_of s →
      (record { full = cylinder * block; whole = x.blocks / block + left / (cylinder * block); part = left % (cylinder * block) } ≡ work_of (load_of s))
      × WorkSmall (record { full = cylinder * block; whole = x.blocks / block + left / (cylinder * block); part = left % (cylinder * block) })
  weighed e =
      let v : cylinder * x.blocks + x.edges ≡ whole_load (load_of s) = rw e (sym (load_parts s)) in
      let q = sym (wholes cylinder block x.blocks x.edges full_some) ∙ ap (λ (n : ℕ). n / (cylinder * block)) v in
      let p = sym (parts cylinder block x.blocks x.edges full_some) ∙ ap (λ (n : ℕ). n % (cylinder * block)) v in (
        λ i. record { full = cylinder * block; whole = q i; part = p i },
        record { some = full_some; whole = whole_capped; part = mod-lt left full_some; full = full_capped },
      )

-- It holds the full once or more exactly if the drive is overloaded.
module _ (l : Load) (x : Work) (e : x ≡ work_of l) (g : WorkSmall x) where
  once_or_more : (1 ≤ x.whole) ↔ Overloaded l
  once_or_more =
      let h : (1 ≤ whole_load l / (l.cylinder * unit l)) ↔ (1 * (l.cylinder * unit l) ≤ whole_load l) = le-div_iff_mul-le (rw e at g.some) in
      rw e (λ p. (let q = h.0 p in omega arith), λ p. h.1 (omega arith))

  pub full_overloads : 1 ≤ x.whole → Overloaded l
  full_overloads = once_or_more.0

  pub part_keeps : x.whole < 1 → Overloaded l → ⊥
  part_keeps h o = let p = once_or_more.1 o in omega arith

-- The tenths of a per cent, of what is whole and of the rest.
thousandths : (load full : ℕ) → 1 ≤ full → load / full * 1000 + load % full * 1000 / full ≡ load * 1000 / full
thousandths load full some =
    sym (mul-add-div some (load / full * 1000) (load % full * 1000))
    ∙ ap (λ (n : ℕ). n / full) (omega (arith, div-add-mod load full, mul_assoc full (load / full) 1000))

pub tenths_parts :
    (l : Load) (x : Work) → x ≡ work_of l → WorkSmall x → x.whole * 1000 + x.part * 1000 / x.full ≡ tenths l
unfolding tenths
tenths_parts l x e g = rw e (thousandths (whole_load l) (l.cylinder * unit l) (rw e at g.some))
