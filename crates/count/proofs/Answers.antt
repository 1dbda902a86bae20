-- What `need` answers, case by case, and that a drive within its limits has a block within its own. Assumes nothing.
use Rattle.std.specs.Prelude.{Ok, Err}
use Prim.Native.Nat.{ℕ, ◌*◌}
use mathlib.Core.Path.{◌≡◌, sym, ◌∙◌}
use native.Mathlib.Omega.{arith}
use Rattle.show.specs.declared.refusal.Refusal.{Refusal}
use Rattle.show.specs.declared.refusal.Refusal.TheVariants.{DriveLimits, SessionLimits}
use Rattle.show.specs.declared.Drive.{Drive}
use Rattle.show.specs.Limits.{DriveWithin, rate_most}
use Rattle.show.specs.Decisions.{between?}
use Rattle.show.proofs.Checks.{unless_kept, unless_broken}
use Rattle.theory.specs.Rounds.{need}
use Rattle.count.specs.Answers.{BlockWithin, RateWithin, block?, need_of}

module _ (R A t : ℕ) where
  pub need_unblocked : (BlockWithin A → ⊥) → need_of R A t ≡ Err DriveLimits
  unfolding need_of
  need_unblocked h = rw (unless_broken (block? A) DriveLimits h)

  pub need_unrated : BlockWithin A → (RateWithin R → ⊥) → need_of R A t ≡ Err (SessionLimits 0)
  unfolding need_of
  need_unrated b h = rw (unless_kept (block? A) DriveLimits b, unless_broken (between? 1 R rate_most) (SessionLimits 0) h)

  pub need_known : BlockWithin A → RateWithin R → need_of R A t ≡ Ok (need R (A * 1000000) t)
  unfolding need_of
  need_known b r = rw (unless_kept (block? A) DriveLimits b, unless_kept (between? 1 R rate_most) (SessionLimits 0) r)

  -- So within the limits a count that is answered is the least, and nothing is refused.
  module _ (b : BlockWithin A) (r : RateWithin R) where
    pub need_is : {m : ℕ} → need_of R A t ≡ Ok m → m ≡ need R (A * 1000000) t
    need_is {m} e = let g : Ok m ≡ Ok (need R (A * 1000000) t) = sym e ∙ need_known b r in cc

    pub need_granted : {w : Refusal} {X : Type 0} → need_of R A t ≡ Err w → X
    need_granted {w} e =
        let g : Err w ≡ Ok (need R (A * 1000000) t) = sym e ∙ need_known b r in
        let z : ◌≡◌ {A = ℕ} 0 1 = cc in
        absurd (let f : ⊥ = omega arith in f)

pub drive_block : (d : Drive) → DriveWithin d → BlockWithin d.block
drive_block d w = record { size = w.block; whole = w.whole }
