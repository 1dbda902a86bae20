-- A session's work over a time, R x t, the count that is ahead of it, and how long that takes. Assumes nothing.
use Prim.Native.Nat.{ℕ, ◌+◌, ◌*◌, ◌/◌, ◌-◌, ◌≤◌, ◌<◌}
use mathlib.Core.Path.{◌≡◌, ◌∙◌, ap}
use mathlib.Core.List.{List}
use native.Mathlib.Omega.{arith}
use native.Mathlib.Nat.{le_refl, mul-le-mul}
use lib.ListN.{get_or}
use Rattle.show.specs.declared.Show.{Show}
use Rattle.show.specs.Limits.{ShowWithin, block_most, layout_at, session_at}
use Rattle.cost.specs.Bound.{worst_time, count_most, worst_most}
use Rattle.cost.specs.Costs.{read_cost}
use Rattle.cost.proofs.Bound.{worst_capped}
use Rattle.cost.proofs.Costs.{cost_limited}
use Rattle.theory.specs.Counts.{unit}
use Rattle.theory.specs.Rounds.{need, asked, next, Fits}
use Rattle.theory.specs.Shows.{load_of}
use Rattle.theory.proofs.Sum.{sum_capped}
use Rattle.theory.proofs.Rounds.{need_enough, need_grows, unit_some}
use Rattle.theory.proofs.Shows.{show_sound, feasible_few}
use Rattle.verdict.specs.Answers.{row}
use Rattle.verdict.specs.Steps.{round_most, rates_of}
use Rattle.verdict.proofs.Sets.{time_same, set_of_row}

pub rate_at : (s : Show) (rates : List ℕ) → rates ≡ row (load_of s) (rates_of s) → (i : ℕ) → i < s.playing → get_or rates i 0 ≡ rates_of s i
rate_at s rates e i l = ap (λ (m : List ℕ). get_or m i 0) e ∙ set_of_row (load_of s) (rates_of s) i l

module _ (s : Show) (w : ShowWithin s) where
  pub asked_grows : (i : ℕ) {t x : ℕ} → t ≤ x → asked (load_of s) t i ≤ asked (load_of s) x i
  asked_grows i h = need_grows (unit (load_of s)) (unit_some (load_of s) (show_sound s w)) (le_refl (rates_of s i)) h

  -- The work of a session over t is below what the count that t asks for covers.
  pub work_below : (i t : ℕ) → rates_of s i * t < asked (load_of s) t i * unit (load_of s)
  work_below i t =
      need_enough (rates_of s i) (unit (load_of s)) t (asked (load_of s) t i) (unit_some (load_of s) (show_sound s w)) (le_refl (asked (load_of s) t i))

  -- What the code computes of a session's rate r and a time t: the count that is ahead of the work, and how long that takes.
  module _ (i t r : ℕ) (q : r ≡ rates_of s i) where
    pub count_asked : r * t / unit (load_of s) + 1 ≡ asked (load_of s) t i
    unfolding need
    count_asked = rw q

    module _ (l : i < s.playing) where
      pub time_asked :
          (u : ℕ) →
          u ≡ worst_time s.drive.cylinder (read_cost (layout_at s (session_at s i).layout)) (r * t / unit (load_of s) + 1) →
          u ≡ ((load_of s).stream i).time (asked (load_of s) t i)
      time_asked u h = h ∙ time_same s i _ ∙ ap ((load_of s).stream i).time count_asked

      -- Where it fits, all of that is small.
      module _ (f : Fits (load_of s) t) where
        pub count_few : r * t / unit (load_of s) + 1 < count_most
        count_few = rw count_asked (feasible_few s w (asked (load_of s) t) f i l)

        pub covered_capped : (r * t / unit (load_of s) + 1) * unit (load_of s) ≤ count_most * (block_most * 1000000)
        covered_capped =
            let few = count_few in
            let high = w.drive.block.high in
            mul-le-mul {n₂ = count_most} {m₂ = block_most * 1000000} (omega arith) (omega arith)

        pub work_capped : r * t < count_most * (block_most * 1000000)
        work_capped =
            let below : r * t < (r * t / unit (load_of s) + 1) * unit (load_of s) = rw (count_asked, q) (work_below i t) in
            let most = covered_capped in
            omega arith

  -- A round that fits is short.
  pub next_small : (t : ℕ) → Fits (load_of s) t → next (load_of s) t < round_most
  next_small t f =
      let each : (i : ℕ) → i < s.playing → ((load_of s).stream i).time (asked (load_of s) t i) ≤ worst_most - 1 =
      (λ i l.
      (let few = feasible_few s w (asked (load_of s) t) f i l in
      let u = worst_capped s.drive.cylinder _ (cost_limited s w i l) (asked (load_of s) t i) (omega arith) in
      omega arith)) in
      let sum = sum_capped _ (worst_most - 1) s.playing each in
      let n = w.counts.sessions in
      omega arith
