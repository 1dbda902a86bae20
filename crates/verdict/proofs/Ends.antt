-- The end of the search: the first time over which some count no longer fits its buffer. Assumes nothing.
use Prim.Native.Nat.{ℕ, ◌+◌, ◌*◌, ◌/◌, ◌-◌, ◌≤◌, ◌<◌, min}
use mathlib.Core.Path.{◌≡◌}
use mathlib.Core.Logic.{◌↔◌}
use native.Mathlib.Omega.{arith}
use native.Mathlib.Nat.{one-mul, add-mul, mul_comm, mul_assoc, div-mul-le_self, le-div_iff_mul-le}
use borrow.Author.Count.{below_more}
use Rattle.show.specs.declared.Session.{Session}
use Rattle.show.specs.declared.Show.{Show}
use Rattle.show.specs.Limits.{ShowWithin, buffer_most, session_at}
use Rattle.theory.specs.Counts.{Accepted, needed}
use Rattle.theory.specs.Rounds.{need, asked, Fits, NotPast}
use Rattle.theory.specs.Shows.{load_of}
use Rattle.theory.proofs.Rounds.{need_enough, need_least, start_below, accepted_fits}
use Rattle.theory.proofs.Shows.{show_sound}
use Rattle.count.specs.Answers.{Buffered}
use Rattle.verdict.specs.Steps.{Lasting, SoonerIs, EndIs, end_most}

-- A quotient rounded up is above t exactly if t times the divisor is below the dividend.
below_ceil : (t a r : ℕ) → 1 ≤ r → (t < (a + r - 1) / r) ↔ (r * t < a)
below_ceil t a r h = (
  λ l. (let g : (t + 1) * r ≤ a + r - 1 = (le-div_iff_mul-le h).0 (omega arith) in omega (arith, add-mul t 1 r, one-mul r, mul_comm r t)),
  λ l. (let g : t + 1 ≤ (a + r - 1) / r = (le-div_iff_mul-le h).1 (omega (arith, add-mul t 1 r, one-mul r, mul_comm r t)) in omega arith),
)

module _ (A : ℕ) (x : Session) (h : Lasting A x) where
  -- The largest count that has room, where one block has.
  abbrev most : ℕ
  most = (x.buffer - (x.cushion + A)) / A

  some : 1 ≤ A
  some = let l = h.block.low in omega arith

  pub most_capped : most * (A * 1000000) ≤ buffer_most * 1000000
  most_capped =
      let p : most * A ≤ x.buffer - (x.cushion + A) = div-mul-le_self (x.buffer - (x.cushion + A)) A in
      let b = h.buffer in
      omega (arith, mul_assoc most A 1000000)

  room_most : (m : ℕ) → Buffered A x m → m ≤ most
  room_most m r = (le-div_iff_mul-le some).1 (omega (arith, add-mul m 1 A, one-mul A))

  most_room : (m : ℕ) → x.cushion + A ≤ x.buffer → m ≤ most → Buffered A x m
  most_room m fits l =
      let p : m * A ≤ x.buffer - (x.cushion + A) = (le-div_iff_mul-le some).0 l in omega (arith, add-mul m 1 A, one-mul A)

  abbrev last : ℕ
  last = (most * (A * 1000000) + x.rate - 1) / x.rate

  unit_some : 1 ≤ A * 1000000
  unit_some = let l = some in omega arith

  -- A count has room exactly before the time that the largest is ahead of.
  last_room : (t : ℕ) → x.cushion + A ≤ x.buffer → t < last → Buffered A x (need x.rate (A * 1000000) t)
  last_room t fits l =
      most_room _ fits
      (need_least x.rate (A * 1000000) t most unit_some ((below_ceil t (most * (A * 1000000)) x.rate h.rate).0 l))

  room_last : (t : ℕ) → Buffered A x (need x.rate (A * 1000000) t) → t < last
  room_last t r =
      (below_ceil t (most * (A * 1000000)) x.rate h.rate).1
      (need_enough x.rate (A * 1000000) t most unit_some (room_most _ r))

  pub sooner_none : (e : ℕ) → x.buffer < x.cushion + A → SoonerIs A x e 0
  sooner_none e l t = (
    λ b. absurd (let f : ⊥ = omega arith in f),
    λ p. absurd (let r = p.1 in let f : ⊥ = omega (arith, add-mul (need x.rate (A * 1000000) t) 1 A, one-mul A) in f),
  )

  pub sooner_least : (e : ℕ) → x.cushion + A ≤ x.buffer → SoonerIs A x e (min last e)
  sooner_least e fits t =
      (λ b. (omega arith, last_room t fits (omega arith)), λ p. (let l = room_last t p.1 in let m = p.0 in omega arith))

-- The end so far: the times below it are those over which the counts of the first i sessions fit.
pub record EndTo (s : Show) (end i : ℕ) : Type 0 where
  pub inside : i ≤ s.playing
  pub early : (t : ℕ) → t < end → (t < end_most) × ((k : ℕ) → k < i → needed (load_of s) k (asked (load_of s) t k) ≤ ((load_of s).stream k).buffer)
  pub late : (t : ℕ) → t < end_most → ((k : ℕ) → k < i → needed (load_of s) k (asked (load_of s) t k) ≤ ((load_of s).stream k).buffer) → t < end

module _ (s : Show) (w : ShowWithin s) where
  pub can_last : (i : ℕ) → i < s.playing → Lasting s.drive.block (session_at s i)
  can_last i l =
      record { block = w.drive.block; rate = (w.sessions i l).rate.low; buffer = (w.sessions i l).buffer.high }

  pub end_begun : EndTo s end_most 0
  end_begun =
      record { inside = omega arith; early = λ t b. (b, λ k l. absurd (let f : ⊥ = omega arith in f)); late = λ t b all. b }

  pub end_body :
      (e r i : ℕ) → EndTo s e i → i < s.playing → SoonerIs s.drive.block (session_at s i) e r → EndTo s r (i + 1)
  end_body e r i h l g =
      record {
        inside = omega arith;
        early = λ t b. (let p = (g t).0 b in let q = h.early t p.0 in (q.0, below_more _ _ q.1 p.1));
        late = λ t b all. (g t).1 (h.late t b (λ k m. all k (omega arith)), all i (omega arith));
      }

  pub end_ended : (e i : ℕ) → EndTo s e i → s.playing ≤ i → EndIs s e
  end_ended e i h l t =
      let a = h.inside in
      (λ b. (let q = h.early t b in (q.0, λ k m. q.1 k (omega arith))), λ p. h.late t p.0 (λ k m. p.1 k (omega arith)))

  -- Before the end all counts fit, and from there on there is no set.
  module _ (end : ℕ) (e : EndIs s end) where
    pub fits_early : (t : ℕ) → t < end → Fits (load_of s) t
    fits_early t l = ((e t).0 l).1

    pub none_late : (t : ℕ) → NotPast (load_of s) t → end ≤ t → t < end_most → Accepted (load_of s) → ⊥
    none_late t below l m a =
        let p : t < end = (e t).1 (m, accepted_fits (load_of s) (show_sound s w) t below a) in omega arith

    pub none_begun : end ≡ 0 → Accepted (load_of s) → ⊥
    none_begun z = none_late 0 (start_below (load_of s) (show_sound s w)) (omega arith) (omega arith)
