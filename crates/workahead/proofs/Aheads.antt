-- Workaheads: the numbers on the way to one fit 64 bits, and it is small. Assumes nothing.
use Prim.Native.Nat.{ℕ, ◌+◌, ◌*◌, ◌^◌, ◌≤◌, ◌<◌}
use mathlib.Core.Path.{◌≡◌, ap, ◌∙◌}
use native.Mathlib.Decide.{dec_lt}
use native.Mathlib.Nat.{lt_of_le_of_lt}
use native.Mathlib.Omega.{arith}
use lib.IntN.{ℤ, pos, sub_ℕ, ◌-ℤ◌, ◌*ℤ◌}
use lib.Signed.{mag}
use mir.Syntax.{w64}
use mir.Val.{SFits}
use Rattle.show.specs.declared.Session.{Session}
use Rattle.theory.specs.Floor.{floor_z}
use Rattle.theory.proofs.Integers.{sub_ge, sub_lt, sub_pos, sub_less, sub_times}
use Rattle.state.specs.declared.State.{State}
use Rattle.state.specs.State.{put_most}
use Rattle.workahead.specs.Times.{ahead_by_state}
use Rattle.workahead.proofs.Truncated.{floor_most}

-- (P - Y) x 1,000,000 - C as one difference
ahead_is : (P Y C : ℕ) → (pos P -ℤ pos Y) *ℤ pos 1000000 -ℤ pos C ≡ sub_ℕ (P * 1000000) (Y * 1000000 + C)
ahead_is P Y C =
    ap (λ (z : ℤ). z *ℤ pos 1000000 -ℤ pos C) (sub_pos P Y) ∙ ap (λ (z : ℤ). z -ℤ pos C) (sub_times P Y 1000000)
    ∙ sub_less (P * 1000000) (Y * 1000000) C

-- and so workahead
pub ahead_floors :
    (x : Session) (s : State) → ahead_by_state x s ≡ floor_z (sub_ℕ (s.put * 1000000) (x.cushion * 1000000 + s.clock)) x.rate
ahead_floors x s = ap (λ (z : ℤ). floor_z z x.rate) (ahead_is s.put x.cushion s.clock)

-- ---- what fits

pub sub_most : (a b k : ℕ) → a < k → b ≤ k → mag (sub_ℕ a b) < k
sub_most a b k p q = from (dec_lt a b)
  where
    from : Dec (a < b) → mag (sub_ℕ a b) < k
    from (yes l) = rw (sub_lt a b l) (omega arith)
    from (no g) = rw (sub_ge a b (omega arith)) (omega arith)

pub record AheadFits (P Y C : ℕ) : Type 0 where
  pub bytes : SFits w64 (pos P -ℤ pos Y)
  pub scaled : SFits w64 ((pos P -ℤ pos Y) *ℤ pos 1000000)
  pub whole : SFits w64 ((pos P -ℤ pos Y) *ℤ pos 1000000 -ℤ pos C)

pub ahead_fits : (P Y C : ℕ) → P ≤ put_most → Y < 2 ^ 32 → C ≤ put_most * 1000000 → AheadFits P Y C
ahead_fits P Y C p y c =
    let scale = ap (λ (z : ℤ). z *ℤ pos 1000000) (sub_pos P Y) ∙ sub_times P Y 1000000 in
    record {
      bytes = rw (sub_pos P Y) (record { sfits = sub_most P Y (2 ^ 63) (omega arith) (omega arith) });
      scaled = rw scale (record { sfits = sub_most (P * 1000000) (Y * 1000000) (2 ^ 63) (omega arith) (omega arith) });
      whole = rw (ahead_is P Y C)
          (record { sfits = sub_most (P * 1000000) (Y * 1000000 + C) (2 ^ 63) (omega arith) (omega arith) });
    }

pub ahead_small :
    (x : Session) (s : State) → s.put ≤ put_most → x.cushion < 2 ^ 32 → s.clock ≤ put_most * 1000000 → mag (ahead_by_state x s) < 2 ^ 62
ahead_small x s p y c =
    rw (ahead_floors x s)
    (lt_of_le_of_lt (floor_most _ x.rate)
    (sub_most (s.put * 1000000) (x.cushion * 1000000 + s.clock) (2 ^ 62) (omega arith) (omega arith)))
