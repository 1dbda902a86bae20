-- What a sound run tells of a session that plays, for its workahead. Assumes nothing.
use Prim.Native.Nat.{ℕ, ◌*◌, ◌^◌, ◌≤◌, ◌<◌}
use native.Mathlib.Omega.{arith}
use Rattle.state.specs.State.{put_most}
use Rattle.run.specs.declared.Run.{Run}
use Rattle.run.specs.Run.{playing, state_at, clip_at}
use Rattle.run.specs.Sound.{SoundRun}

pub record Counting (r : Run) (i : ℕ) : Type 0 where
  pub place : i < 16
  pub put : (state_at r i).put ≤ put_most
  pub clock : (state_at r i).clock ≤ put_most * 1000000
  pub rate : 0 < (clip_at r i).rate
  pub cushion : (clip_at r i).cushion < 2 ^ 32

pub counting : (r : Run) → SoundRun r → (i : ℕ) → i < playing r → Counting r i
counting r s i l =
    let b = s.states i l in
    let few = s.within.counts.sessions in
    let p = b.put in
    let t = b.taken in
    let k = b.clock in
    let y = (s.within.sessions i l).cushion.high in
    record {
      place = omega arith;
      put = p;
      clock = omega arith;
      rate = (s.within.sessions i l).rate.low;
      cushion = omega arith;
    }
