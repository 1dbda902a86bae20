-- What is left to test of a take on a sound state. Assumes nothing.
use Prim.Native.Nat.{ℕ}
use mathlib.Core.Path.{◌≡◌}
use mathlib.Core.Bool.{Bool}
use Rattle.show.specs.declared.Session.{Session}
use Rattle.show.specs.declared.refusal.Refusal.TheVariants as refusal
use Rattle.show.specs.Checks.{first}
use Rattle.show.proofs.Checks.{unless_kept, first_within}
use Rattle.state.specs.declared.State.{State}
use Rattle.state.specs.State.{StateSound}
use Rattle.state.specs.Decisions.{state?}
use Rattle.player.specs.Answers.{early_check, held_check, take_check}

module _ (s : State) (x : Session) (started : Bool) (n : ℕ) where
  module _ (h : StateSound started x s) where
    -- Of a sound state 12 and 10 are left to test.
    pub take_sound : take_check started x s n ≡ first (early_check started) (held_check s n)
    unfolding take_check
    take_sound = first_within _ _ (unless_kept (state? started x s) refusal.Damaged h)
