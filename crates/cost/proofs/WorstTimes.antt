-- What `takes` and `worst_time` answer, and that the second looks at no unused place. Assumes nothing.
use Rattle.std.specs.Prelude.{Ok, Err}
use Prim.Native.Nat.{ℕ, ◌≤◌, ◌<◌}
use mathlib.Core.Path.{◌≡◌, refl, sym, ap, ◌∙◌}
use native.Mathlib.Omega.{arith}
use native.Mathlib.Decide.{dec_lt}
use Rattle.show.specs.Outcomes.{Check}
use Rattle.show.specs.declared.Drive.{Drive}
use Rattle.show.specs.declared.Show.{Show}
use Rattle.show.specs.declared.refusal.Refusal.{Refusal}
use Rattle.show.specs.declared.refusal.Refusal.TheVariants.{DriveLimits, LayoutLimits, NoSession}
use Rattle.show.specs.Limits.{Between, Alike}
use Rattle.show.specs.Decisions.{between?}
use Rattle.show.specs.Checks.{unless, show_check}
use Rattle.show.proofs.Checks.{unless_kept, unless_broken}
use Rattle.show.proofs.Shows.{check_within, alike_check}
use Rattle.cost.specs.declared.Cost.{Cost}
use Rattle.cost.specs.Bound.{Limited, worst_time}
use Rattle.cost.specs.Costs.{cost_of}
use Rattle.cost.proofs.Costs.{alike_cost}
use Rattle.cost.specs.WorstTimes.{limited?, takes_of, worst_of}

-- The answers case by case.
module _ (c : Cost) (N n : ℕ) where
  pub takes_undriven : (Between 1 N 65536 → ⊥) → takes_of c N n ≡ Err DriveLimits
  unfolding takes_of
  takes_undriven h = rw (unless_broken (between? 1 N 65536) DriveLimits h)

  pub takes_unlimited : Between 1 N 65536 → (Limited c → ⊥) → takes_of c N n ≡ Err (LayoutLimits 0)
  unfolding takes_of
  takes_unlimited b h = rw (unless_kept (between? 1 N 65536) DriveLimits b, unless_broken (limited? c) (LayoutLimits 0) h)

  pub takes_known : Between 1 N 65536 → Limited c → takes_of c N n ≡ Ok (worst_time N c n)
  unfolding takes_of
  takes_known b l = rw (unless_kept (between? 1 N 65536) DriveLimits b, unless_kept (limited? c) (LayoutLimits 0) l)

  -- So within the limits a time that is answered is U, and nothing is refused.
  module _ (b : Between 1 N 65536) (l : Limited c) where
    pub takes_is : {t : ℕ} → takes_of c N n ≡ Ok t → t ≡ worst_time N c n
    takes_is {t} e = let g : Ok t ≡ Ok (worst_time N c n) = sym e ∙ takes_known b l in cc

    pub takes_granted : {w : Refusal} {X : Type 0} → takes_of c N n ≡ Err w → X
    takes_granted {w} e =
        let g : Err w ≡ Ok (worst_time N c n) = sym e ∙ takes_known b l in
        let z : ◌≡◌ {A = ℕ} 0 1 = cc in
        absurd (let f : ⊥ = omega arith in f)

module _ (s : Show) (i n : ℕ) where
  pub worst_refused : {w : Refusal} → show_check s ≡ Err w → worst_of s i n ≡ Err w
  unfolding worst_of
  worst_refused e = rw e

  pub worst_nobody : show_check s ≡ Ok tt → s.playing ≤ i → worst_of s i n ≡ Err NoSession
  unfolding worst_of
  worst_nobody e l =
      let no_one : unless (dec_lt i s.playing) NoSession ≡ Err NoSession =
      unless_broken (dec_lt i s.playing) NoSession (λ (h : i < s.playing). omega arith) in
      rw (e, no_one)

  pub worst_takes : show_check s ≡ Ok tt → i < s.playing → worst_of s i n ≡ Ok (worst_time s.drive.cylinder (cost_of s i) n)
  unfolding worst_of
  worst_takes e l = rw (e, unless_kept (dec_lt i s.playing) NoSession l)

-- Shows that agree below their counts have the same answer for every session and count.
pub alike_worst : (s t : Show) → Alike s t → (i n : ℕ) → worst_of s i n ≡ worst_of t i n
alike_worst s t a i n = from (show_check s) refl (dec_lt i s.playing)
  where
    check : {v : Check} → show_check s ≡ v → show_check t ≡ v
    check e = sym (alike_check s t a) ∙ e

    from : (v : Check) → show_check s ≡ v → Dec (i < s.playing) → worst_of s i n ≡ worst_of t i n
    from (Err w) e d = worst_refused s i n e ∙ sym (worst_refused t i n (check e))
    from (Ok tt) e (no h) =
        worst_nobody s i n e (omega arith) ∙ sym (worst_nobody t i n (check e) (let p = a.playing in omega arith))
    from (Ok tt) e (yes l) =
        worst_takes s i n e l
        ∙ ap (λ (c : Cost). Ok (worst_time s.drive.cylinder c n)) (alike_cost s t a (check_within s e) i l)
        ∙ ap (λ (d : Drive). Ok (worst_time d.cylinder (cost_of t i) n)) a.drive
        ∙ sym (worst_takes t i n (check e) (rw a.playing at l))
