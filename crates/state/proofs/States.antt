-- Each step keeps a state sound. Assumes nothing.
use Prim.Native.Nat.{ℕ, ◌+◌, ◌-◌, ◌≤◌}
use mathlib.Core.Path.{◌≡◌, sym, ◌∙◌}
use mathlib.Core.Bool.{Bool, true, false}
use native.Mathlib.Nat.{min-le_right}
use native.Mathlib.Omega.{arith}
use Rattle.show.specs.declared.Session.{Session}
use Rattle.state.specs.declared.State.{State}
use Rattle.state.specs.State.{put_most, Room, StateSound, ticked, drawn, filled}

pub true_false : {X : Type 0} → true ≡ false → X
true_false e = absurd (cc)

-- ---- the steps

module _ {started : Bool} {x : Session} {s : State} (h : StateSound started x s) where
  pub ticked_sound : (rate d : ℕ) → started ≡ true → StateSound started x (ticked rate d s)
  ticked_sound rate d e =
      record {
        put = h.put;
        taken = h.taken;
        held = h.held;
        clock = min-le_right _ _;
        early = λ f. true_false (sym e ∙ f);
      }

  pub drawn_sound : (n : ℕ) → started ≡ true → n ≤ s.put - s.taken → StateSound started x (drawn n s)
  drawn_sound n e l =
      let t = h.taken in
      let b = h.held in
      let k = h.clock in
      record {
        put = h.put;
        taken = omega arith;
        held = omega arith;
        clock = omega arith;
        early = λ f. true_false (sym e ∙ f);
      }

  pub filled_sound : (block : ℕ) → Room block x s → s.put + block ≤ put_most → StateSound started x (filled block s)
  filled_sound block room most =
      let t = h.taken in
      record {
        put = most;
        taken = omega arith;
        held = room;
        clock = h.clock;
        early = λ f. record { taken = (h.early f).taken; clock = (h.early f).clock };
      }
