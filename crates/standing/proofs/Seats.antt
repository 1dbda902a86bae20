-- The sessions one after the other, each at its place: the load grows by one time after another, and the least is the slack.
-- Assumes nothing.
use Prim.Native.Nat.{ℕ, ◌+◌, ◌-◌, ◌^◌, ◌≤◌, ◌<◌}
use mathlib.Core.Path.{◌≡◌, refl, sym, ap, subst, ◌∙◌}
use mathlib.Core.Logic.{ite, if_pos, if_neg}
use mathlib.Core.Bool.{Bool, true, false, cond}
use mathlib.Core.List.{List}
use native.Mathlib.Decide.{dec_le, dec_lt}
use native.Mathlib.Nat.{le_of_lt, le_of_eq, mul-le-mul_right}
use native.Mathlib.Omega.{arith}
use lib.IntN.{ℤ, pos, ◌-ℤ◌}
use lib.ListN.{length, get_or}
use lib.Signed.{◌≤ℤ◌, ◌<ℤ◌, lt_z}
use Rattle.std.specs.Int.{int_min}
use Rattle.cost.specs.Bound.{worst_most}
use Rattle.theory.specs.Sum.{sum_where}
use Rattle.theory.specs.Slack.{least_to, load_by, spare_by, slack_by}
use Rattle.theory.proofs.Integers.{≤ℤ-antisymm}
use Rattle.theory.proofs.Sum.{sum_capped, sum_changed, where_most, where_same}
use Rattle.theory.proofs.Slack.{least_first, least_less, least_more, least_most, attained, slack_from, slack_least}
use Rattle.verdict.specs.Answers.{set_of}
use Rattle.run.proofs.Orders.{names_below}
use Rattle.standing.specs.declared.Standing.{Standing}
use Rattle.order.specs.Order.{named, ahead_in, place_in}
use Rattle.standing.specs.Standing.{Fit, spare_in, standing_slack}
use Rattle.order.proofs.Orders.{named_back, test_less, test_not}
use Rattle.standing.proofs.Named.{named_each}

-- ---- in any order: session i stands at p i, and e k stands at place k

pub record Seated (p e : ℕ → ℕ) (n : ℕ) : Type 0 where
  pub below : (i : ℕ) → i < n → p i < n
  pub inside : (k : ℕ) → k < n → e k < n
  pub placed : (k : ℕ) → k < n → p (e k) ≡ k
  pub seated : (i : ℕ) → i < n → e (p i) ≡ i

-- the times of those before place k
abbrev pub load_to : (ℕ → ℕ) → (ℕ → ℕ) → ℕ → ℕ → ℕ
load_to p u n k = sum_where (λ j. dec_lt (p j) k) u n

module _ (p e : ℕ → ℕ) (u : ℕ → ℕ) (n : ℕ) where
  pub load_none : load_to p u n 0 ≡ 0
  load_none =
      let h = sum_capped (λ i. ite (dec_lt (p i) 0) (u i) 0) 0 n
      (λ i l. le_of_eq (if_neg (dec_lt (p i) 0) (λ b. let f : ⊥ = omega arith in f) (u i) 0)) in
      omega arith

  module _ (s : Seated p e n) (k : ℕ) (l : k < n) where
    -- Only e k is new.
    others : (i : ℕ) → i < n → (i ≡ e k → ⊥) → ite (dec_lt (p i) k) (u i) 0 ≡ ite (dec_lt (p i) (k + 1)) (u i) 0
    others i m d = from (dec_lt (p i) k)
      where
        from : Dec (p i < k) → ite (dec_lt (p i) k) (u i) 0 ≡ ite (dec_lt (p i) (k + 1)) (u i) 0
        from (yes b) = if_pos (dec_lt (p i) k) b (u i) 0 ∙ sym (if_pos (dec_lt (p i) (k + 1)) (omega arith) (u i) 0)
        from (no b) =
            let far : p i ≡ k → ⊥ = (λ g. d (sym (s.seated i m) ∙ ap e g)) in
            if_neg (dec_lt (p i) k) b (u i) 0
            ∙ sym (if_neg (dec_lt (p i) (k + 1)) (λ c. let f : ⊥ = omega arith in f) (u i) 0)

    pub load_next : load_to p u n k + u (e k) ≡ load_to p u n (k + 1)
    load_next =
        let at = s.placed k l in
        let all = sum_changed (λ i. ite (dec_lt (p i) k) (u i) 0) (λ i. ite (dec_lt (p i) (k + 1)) (u i) 0) n (e k) (s.inside k l) others in
        let out = if_neg (dec_lt (p (e k)) k) (λ b. let f : ⊥ = omega arith in f) (u (e k)) 0 in
        let in' = if_pos (dec_lt (p (e k)) (k + 1)) (omega arith) (u (e k)) 0 in
        omega arith

    pub load_at : load_to p u n (k + 1) ≡ load_by p u n (e k)
    load_at =
        let at = s.placed k l in
        where_same (λ j. dec_lt (p j) (k + 1)) (λ j. dec_le (p j) (p (e k))) u u n (λ i m b. omega arith) (λ i m b. omega arith) (λ i m. refl)

-- The least in that order is the slack.
pub least_seated :
    (p e : ℕ → ℕ) (w : ℕ → ℤ) (u : ℕ → ℕ) (n : ℕ) → 0 < n → Seated p e n →
    least_to (λ k. spare_by p w u n (e k)) (n - 1) ≡ slack_by p w u n
least_seated p e w u n z s = ≤ℤ-antisymm _ _ (slack_from p w u n _ z all) one
  where
    all : (i : ℕ) → i < n → least_to (λ k. spare_by p w u n (e k)) (n - 1) ≤ℤ spare_by p w u n i
    all i l =
        subst (λ (j : ℕ). least_to (λ k. spare_by p w u n (e k)) (n - 1) ≤ℤ spare_by p w u n j) (s.seated i l)
        (least_most (λ k. spare_by p w u n (e k)) (n - 1) (p i) (let b = s.below i l in omega arith))

    one : slack_by p w u n ≤ℤ least_to (λ k. spare_by p w u n (e k)) (n - 1)
    one =
        let r = attained (λ k. spare_by p w u n (e k)) (n - 1) in
        rw r.is (slack_least p w u n (e r.at) (s.inside r.at (let b = r.within in omega arith)))

-- ---- in a standing

-- the session at a place
abbrev pub seat_in : List ℕ → ℕ → ℕ
seat_in l k = get_or l k 0

module _ (p : ℕ → ℕ) (n : ℕ) (l : List ℕ) (few : n ≤ length l) (below : (i : ℕ) → i < n → p i < n)
    (apart : (i j : ℕ) → i < n → j < n → p i ≡ p j → i ≡ j) where
  named_inside : (k : ℕ) → k < n → get_or (named p n l) k 0 < n
  named_inside = names_below (named p n l) n (named_each p l n few below apart)

  placed : (k : ℕ) → k < n → p (get_or (named p n l) k 0) ≡ k
  placed k m =
      let i = get_or (named p n l) k 0 in
      let b = named_inside k m in
      let once = named_each p l n few below apart i b in
      once.only (p i) (below i b) (named_back p l n few below apart i b) ∙ sym (once.only k m refl)

  pub named_seats : (o : List ℕ) → o ≡ named p n l → Seated p (seat_in o) n
  named_seats o e =
      subst (λ (x : List ℕ). Seated p (seat_in x) n) (sym e)
      (record { below = below; inside = named_inside; placed = placed; seated = named_back p l n few below apart })

-- Of the sessions at the first k places: their times come to `sum`, and `least` is the least that one of them has to spare.
pub record LeastTo (s : Standing) (o : List ℕ) (sum : ℕ) (least : ℤ) (k : ℕ) : Type 0 where
  pub some : 0 < k
  pub inside : k ≤ s.playing
  pub times : sum ≡ load_to (place_in s.places) (set_of s.times) s.playing k
  pub is : least ≡ least_to (λ m. spare_in s (seat_in o m)) (k - 1)

module _ (s : Standing) (f : Fit s) where
  turn_small : (k : ℕ) → load_to (place_in s.places) (set_of s.times) s.playing k ≤ 2 ^ 61
  turn_small k =
      let all = where_most (λ j. dec_lt (place_in s.places j) k) (set_of s.times) s.playing in
      let each = sum_capped (set_of s.times) worst_most s.playing (λ i l. le_of_lt (f.times i l)) in
      let few = mul-le-mul_right worst_most f.few in
      omega arith

module _ (s : Standing) (o : List ℕ) (h : Seated (place_in s.places) (seat_in o) s.playing) where
  turn_next :
      (sum k : ℕ) → k < s.playing → sum ≡ load_to (place_in s.places) (set_of s.times) s.playing k →
      sum + set_of s.times (seat_in o k) ≡ load_to (place_in s.places) (set_of s.times) s.playing (k + 1)
  turn_next sum k l e =
      ap (λ (x : ℕ). x + set_of s.times (seat_in o k)) e
      ∙ load_next (place_in s.places) (seat_in o) (set_of s.times) s.playing h k l

  turn_first : 0 < s.playing → set_of s.times (seat_in o 0) ≡ load_to (place_in s.places) (set_of s.times) s.playing 1
  turn_first z =
      let n = load_none (place_in s.places) (seat_in o) (set_of s.times) s.playing in
      let e = turn_next 0 0 z (sym n) in
      omega arith

  turn_spare :
      (k load : ℕ) (x : ℤ) → k < s.playing → load ≡ load_to (place_in s.places) (set_of s.times) s.playing (k + 1) →
      x ≡ ahead_in s.aheads (seat_in o k) -ℤ pos load → x ≡ spare_in s (seat_in o k)
  turn_spare k load x l e g =
      g
      ∙ ap (λ (y : ℕ). ahead_in s.aheads (seat_in o k) -ℤ pos y)
      (e ∙ load_at (place_in s.places) (seat_in o) (set_of s.times) s.playing h k l)

  -- No load is large.
  module _ (f : Fit s) where
    pub first_small : 0 < s.playing → set_of s.times (seat_in o 0) ≤ 2 ^ 61
    first_small z = rw (turn_first z) (turn_small s f 1)

    pub next_small :
        (sum k : ℕ) → k < s.playing → sum ≡ load_to (place_in s.places) (set_of s.times) s.playing k →
        sum + set_of s.times (seat_in o k) ≤ 2 ^ 61
    next_small sum k l e = rw (turn_next sum k l e) (turn_small s f (k + 1))

  pub turned_first :
      (x : ℤ) → 0 < s.playing → x ≡ ahead_in s.aheads (seat_in o 0) -ℤ pos (set_of s.times (seat_in o 0)) →
      LeastTo s o (set_of s.times (seat_in o 0)) x 1
  turned_first x z g =
      record {
        some = omega arith;
        inside = z;
        times = turn_first z;
        is = turn_spare 0 _ x z (turn_first z) g ∙ sym (least_first (λ m. spare_in s (seat_in o m)));
      }

  module _ (sum : ℕ) (least x : ℤ) (k : ℕ) (t : LeastTo s o sum least k) (l : k < s.playing)
      (g : x ≡ ahead_in s.aheads (seat_in o k) -ℤ pos (sum + set_of s.times (seat_in o k))) where
    spare : x ≡ spare_in s (seat_in o k)
    spare = turn_spare k _ x l (turn_next sum k l t.times) g

    pub turned_less : x <ℤ least → LeastTo s o (sum + set_of s.times (seat_in o k)) x (k + 1)
    turned_less b =
        record {
          some = omega arith;
          inside = omega arith;
          times = turn_next sum k l t.times;
          is = spare ∙ sym (least_less (λ m. spare_in s (seat_in o m)) k t.some (rw (spare, t.is) at b));
        }

    pub turned_more : (x <ℤ least → ⊥) → LeastTo s o (sum + set_of s.times (seat_in o k)) least (k + 1)
    turned_more b =
        record {
          some = omega arith;
          inside = omega arith;
          times = turn_next sum k l t.times;
          is = t.is ∙ sym (least_more (λ m. spare_in s (seat_in o m)) k t.some (rw (spare, t.is) at b));
        }

    -- whichever is less
    pub turned : (y : ℤ) → y ≡ int_min least x → LeastTo s o (sum + set_of s.times (seat_in o k)) y (k + 1)
    turned y e = rw e (by_test (lt_z x least) refl)
      where
        by_test : (b : Bool) → lt_z x least ≡ b → LeastTo s o (sum + set_of s.times (seat_in o k)) (cond b x least) (k + 1)
        by_test true b = turned_less (test_less b)
        by_test false b = turned_more (test_not b)

  pub turned_all : (sum : ℕ) (least : ℤ) (k : ℕ) → LeastTo s o sum least k → s.playing ≤ k → least ≡ standing_slack s
  turned_all sum least k t l =
      let e : k ≡ s.playing = (let i = t.inside in omega arith) in
      t.is
      ∙ ap (λ (n : ℕ). least_to (λ m. spare_in s (seat_in o m)) (n - 1)) e
      ∙ least_seated (place_in s.places) (seat_in o) (ahead_in s.aheads) (set_of s.times) s.playing
      (let z = t.some in omega arith) h
