-- Spare time: slack is the least, ranks number increasing workahead, and no order gives more slack. Assumes nothing.
use Prim.Native.Nat.{ℕ, zero, suc, ◌+◌, ◌-◌, ◌≤◌, ◌<◌}
use mathlib.Core.Path.{◌≡◌, refl, sym, ◌∙◌, subst}
use mathlib.Core.Logic.{inl, inr, ite, if_pos, if_neg}
use native.Mathlib.Omega.{arith}
use native.Mathlib.Nat.{le_refl, le_of_eq, le_trans}
use native.Mathlib.Decide.{dec_le, dec_lt}
use lib.IntN.{ℤ, pos, +ℤ_invr}
use lib.Signed.{◌≤ℤ◌, ◌<ℤ◌, ≤ℤ_refl, <ℤ-≤ℤ_trans, <ℤ_irrefl}
use Rattle.theory.specs.Sum.{sum_to}
use Rattle.theory.specs.Slack.{less?, lesser, least_to, load_by, spare_by, slack_by, Before, before?, rank, slack}
use Rattle.theory.proofs.Sum.{sum_capped, sum_part, where_most, where_grows, where_new, where_same}
use Rattle.theory.proofs.Integers.{not_less, less_at_most, ≤ℤ-trans, ≤ℤ-antisymm, less_grows, less_kept}

-- ---- the least of some

pub least_first : (f : ℕ → ℤ) → least_to f 0 ≡ f 0
unfolding least_to
least_first f = refl

pub least_less : (f : ℕ → ℤ) (i : ℕ) → 0 < i → f i <ℤ least_to f (i - 1) → least_to f (i + 1 - 1) ≡ f i
unfolding least_to
least_less f i h l =
    let next : i + 1 - 1 ≡ suc (i - 1) = omega arith in
    let same : suc (i - 1) ≡ i = omega arith in
    rw (next, same, if_pos (less? (f i) (least_to f (i - 1))) l (f i) (least_to f (i - 1)))

pub least_more : (f : ℕ → ℤ) (i : ℕ) → 0 < i → (f i <ℤ least_to f (i - 1) → ⊥) → least_to f (i + 1 - 1) ≡ least_to f (i - 1)
unfolding least_to
least_more f i h l =
    let next : i + 1 - 1 ≡ suc (i - 1) = omega arith in
    let same : suc (i - 1) ≡ i = omega arith in
    rw (next, same, if_neg (less? (f i) (least_to f (i - 1))) l (f i) (least_to f (i - 1)))

lesser_first : (a b : ℤ) → lesser a b ≤ℤ a
lesser_first a b = elim (less? b a) [
  | yes l ↦ rw (if_pos (less? b a) l b a) (less_at_most b a l)
  | no l ↦ rw (if_neg (less? b a) l b a) (≤ℤ_refl a)
]

lesser_second : (a b : ℤ) → lesser a b ≤ℤ b
lesser_second a b = elim (less? b a) [
  | yes l ↦ rw (if_pos (less? b a) l b a) (≤ℤ_refl b)
  | no l ↦ rw (if_neg (less? b a) l b a) (not_less l)
]

pub least_most : (f : ℕ → ℤ) (n k : ℕ) → k ≤ n → least_to f n ≤ℤ f k
unfolding least_to
least_most f zero k h = let e : k ≡ 0 = omega arith in rw e (≤ℤ_refl (f 0))
least_most f (suc n) k h = elim (dec_le k n) [
  | yes l ↦ ≤ℤ-trans (lesser_first (least_to f n) (f (suc n))) (least_most f n k l)
  | no l ↦ let e : k ≡ suc n = omega arith in rw e (lesser_second (least_to f n) (f (suc n)))
]

-- It is one of them.
pub record Attained (f : ℕ → ℤ) (n : ℕ) : Type 0 where
  pub at : ℕ
  pub within : at ≤ n
  pub is : least_to f n ≡ f at

pub attained : (f : ℕ → ℤ) (n : ℕ) → Attained f n
unfolding least_to
attained f zero = record { at = 0; within = le_refl 0; is = refl }
attained f (suc n) = elim (less? (f (suc n)) (least_to f n)) [
  | yes l ↦ record { at = suc n; within = le_refl (suc n); is = if_pos (less? (f (suc n)) (least_to f n)) l (f (suc n)) (least_to f n) }
  | no l ↦
      let r = attained f n in
      record {
        at = r.at;
        within = (let h = r.within in omega arith);
        is = if_neg (less? (f (suc n)) (least_to f n)) l (f (suc n)) (least_to f n) ∙ r.is;
      }
]

-- ---- slack in any order

pub slack_least :
    (place : ℕ → ℕ) (w : ℕ → ℤ) (u : ℕ → ℕ) (n k : ℕ) → k < n → slack_by place w u n ≤ℤ spare_by place w u n k
unfolding slack_by
slack_least place w u n k h = least_most (spare_by place w u n) (n - 1) k (omega arith)

pub slack_from :
    (place : ℕ → ℕ) (w : ℕ → ℤ) (u : ℕ → ℕ) (n : ℕ) (z : ℤ) → 0 < n →
    ((k : ℕ) → k < n → z ≤ℤ spare_by place w u n k) → z ≤ℤ slack_by place w u n
unfolding slack_by
slack_from place w u n z h f =
    let r = attained (spare_by place w u n) (n - 1) in
    rw r.is (f r.at (let l = r.within in omega arith))

-- Where e finds some of the sessions again, with times no shorter, those not after k among those not after l: no smaller a load.
load_part :
    (e p q u t : ℕ → ℕ) (m n k l : ℕ) → ((i : ℕ) → i < m → e i < n) → ((i j : ℕ) → i < j → j < m → e i < e j) →
    ((i : ℕ) → i < m → q i ≤ q k → p (e i) ≤ p l) → ((i : ℕ) → i < m → t i ≤ u (e i)) → load_by q t m k ≤ load_by p u n l
load_part e p q u t m n k l inside rising order times =
    le_trans (where_grows (λ j. dec_le (q j) (q k)) (λ j. dec_le (p (e j)) (p l)) t (λ j. u (e j)) m order times)
    (sum_part (λ j. ite (dec_le (p j) (p l)) (u j) 0) e m n inside rising)

-- And where they have no more workahead there: no more slack.
slack_part :
    (e p q : ℕ → ℕ) (w v : ℕ → ℤ) (u t : ℕ → ℕ) (m n : ℕ) → 0 < m → ((i : ℕ) → i < m → e i < n) →
    ((i j : ℕ) → i < j → j < m → e i < e j) → ((i j : ℕ) → i < m → j < m → q i ≤ q j → p (e i) ≤ p (e j)) →
    ((i : ℕ) → i < m → w (e i) ≤ℤ v i) → ((i : ℕ) → i < m → t i ≤ u (e i)) → slack_by p w u n ≤ℤ slack_by q v t m
slack_part e p q w v u t m n z inside rising order ahead times =
    slack_from q v t m (slack_by p w u n) z
    (λ k l. ≤ℤ-trans (slack_least p w u n (e k) (inside k l))
    (less_grows (w (e k)) (v k) _ _ (ahead k l) (load_part e p q u t m n k (e k) inside rising (λ i b. order i k b l) times)))

slack_half :
    (p q : ℕ → ℕ) (w v : ℕ → ℤ) (u t : ℕ → ℕ) (n : ℕ) → 0 < n → ((i : ℕ) → i < n → p i ≡ q i) →
    ((i : ℕ) → i < n → w i ≡ v i) → ((i : ℕ) → i < n → u i ≡ t i) → slack_by p w u n ≤ℤ slack_by q v t n
slack_half p q w v u t n z f g h =
    slack_part (λ i. i) p q w v u t n n z (λ i l. l) (λ i j l m. l) (λ i j l m b. rw (f i l, f j m) b)
    (λ i l. rw (g i l) (≤ℤ_refl (v i))) (λ i l. le_of_eq (sym (h i l)))

-- What agrees on the n sessions has one slack.
pub slack_same :
    (p q : ℕ → ℕ) (w v : ℕ → ℤ) (u t : ℕ → ℕ) (n : ℕ) → 0 < n → ((i : ℕ) → i < n → p i ≡ q i) →
    ((i : ℕ) → i < n → w i ≡ v i) → ((i : ℕ) → i < n → u i ≡ t i) → slack_by p w u n ≡ slack_by q v t n
slack_same p q w v u t n z f g h =
    ≤ℤ-antisymm _ _ (slack_half p q w v u t n z f g h)
    (slack_half q p v w t u n z (λ i l. sym (f i l)) (λ i l. sym (g i l)) (λ i l. sym (h i l)))

-- Where slack is not below zero, no workahead is.
pub slack_ahead :
    (place : ℕ → ℕ) (w : ℕ → ℤ) (u : ℕ → ℕ) (n k : ℕ) → k < n → pos 0 ≤ℤ slack_by place w u n → pos 0 ≤ℤ w k
slack_ahead place w u n k l h = less_kept (w k) (load_by place u n k) (≤ℤ-trans h (slack_least place w u n k l))

-- Where every workahead covers all the times, slack is not below zero.
pub slack_enough :
    (place : ℕ → ℕ) (w : ℕ → ℤ) (u : ℕ → ℕ) (n : ℕ) → 0 < n →
    ((i : ℕ) → i < n → pos (sum_to u n) ≤ℤ w i) → pos 0 ≤ℤ slack_by place w u n
slack_enough place w u n h f =
    slack_from place w u n (pos 0) h
    (λ k l. subst (λ (z : ℤ). z ≤ℤ spare_by place w u n k) (+ℤ_invr (pos (sum_to u n)))
    (less_grows (pos (sum_to u n)) (w k) (sum_to u n) (load_by place u n k) (f k l) (where_most (λ j. dec_le (place j) (place k)) u n)))

-- ---- increasing workahead

before_itself : (w : ℕ → ℤ) (j : ℕ) → Before w j j → ⊥
before_itself w j (inl l) = <ℤ_irrefl l
before_itself w j (inr e) = let l = e.1 in omega arith

before_then : (w : ℕ → ℤ) (i j k : ℕ) → Before w i j → Before w j k → Before w i k
before_then w i j k (inl l) (inl m) = inl (<ℤ-≤ℤ_trans l (less_at_most _ _ m))
before_then w i j k (inl l) (inr e) = inl (rw e.0 at l)
before_then w i j k (inr e) (inl m) = inl (rw e.0 m)
before_then w i j k (inr e) (inr d) = let l = e.1 in let m = d.1 in inr (e.0 ∙ d.0, omega arith)

before_same : (w v : ℕ → ℤ) (i j : ℕ) → w i ≡ v i → w j ≡ v j → Before w i j → Before v i j
before_same w v i j e d h = rw (← e, ← d) h

pub rank_same : (w v : ℕ → ℤ) (n j : ℕ) → j < n → ((i : ℕ) → i < n → w i ≡ v i) → rank w n j ≡ rank v n j
unfolding rank
rank_same w v n j l h =
    where_same (λ i. before? w i j) (λ i. before? v i j) _ _ n (λ i m. before_same w v i j (h i m) (h j l))
    (λ i m. before_same v w i j (sym (h i m)) (sym (h j l))) (λ i m. refl)

pub rank_below : (w : ℕ → ℤ) (n j : ℕ) → j < n → rank w n j < n
unfolding rank
rank_below w n j l =
    let all = sum_capped (λ i. 1) 1 n (λ i m. le_refl 1) in
    let new = where_new {q = λ i. Unit} (λ i. before? w i j) (λ i. yes tt) (λ i. 1) (λ i. 1) n j (λ i m b. tt) (λ i m. le_refl 1) l
    (before_itself w j) tt in
    omega arith

pub rank_rises : (w : ℕ → ℤ) (n i j : ℕ) → i < n → Before w i j → rank w n i < rank w n j
unfolding rank
rank_rises w n i j l h =
    let new = where_new (λ k. before? w k i) (λ k. before? w k j) (λ k. 1) (λ k. 1) n i (λ k m b. before_then w k i j b h)
    (λ k m. le_refl 1) l (before_itself w i) h in
    omega arith

-- A session whose rank is at most another's has no more workahead.
pub rank_first : (w : ℕ → ℤ) (n i j : ℕ) → i < n → j < n → rank w n i ≤ rank w n j → w i ≤ℤ w j
rank_first w n i j l m h = elim (less? (w j) (w i)) [
  | yes b ↦ absurd (let r = rank_rises w n j i m (inl b) in let none : ⊥ = omega arith in none)
  | no b ↦ not_less b
]

-- Two sessions have two ranks.
pub rank_apart : (w : ℕ → ℤ) (n i j : ℕ) → i < n → j < n → rank w n i ≡ rank w n j → i ≡ j
rank_apart w n i j l m e =
    let even = ≤ℤ-antisymm (w i) (w j) (rank_first w n i j l m (le_of_eq e)) (rank_first w n j i m l (le_of_eq (sym e))) in
    elim (dec_lt i j) [
      | yes b ↦ absurd (let r = rank_rises w n i j l (inr (even, b)) in let none : ⊥ = omega arith in none)
      | no b ↦ elim (dec_lt j i) [
        | yes c ↦ absurd (let r = rank_rises w n j i m (inr (sym even, c)) in let none : ⊥ = omega arith in none)
        | no c ↦ omega arith
      ]
    ]

-- ---- no order gives more slack

-- Of those below n that have p, one whose place is the last among those below m.
record Last (p : ℕ → Type 0) (place : ℕ → ℕ) (n m : ℕ) : Type 0 where
  at : ℕ
  within : at < n
  holds : p at
  last : (i : ℕ) → i < m → p i → place i ≤ place at

last_of :
    (p : ℕ → Type 0) → ((i : ℕ) → Dec (p i)) → (place : ℕ → ℕ) (n k : ℕ) → k < n → p k → (m : ℕ) → m ≤ n → Last p place n m
last_of p told place n k l h zero g =
    record { at = k; within = l; holds = h; last = λ i b. absurd (let none : ⊥ = omega arith in none) }
last_of p told place n k l h (suc m) g = from (told m) (last_of p told place n k l h m (omega arith))
  where
    more : (x : ℕ) → ((i : ℕ) → i < m → p i → place i ≤ x) → (p m → place m ≤ x) → (i : ℕ) → i < suc m → p i → place i ≤ x
    more x f e i b = elim (dec_lt i m) [
      | yes c ↦ f i c
      | no c ↦ subst (λ (j : ℕ). p j → place j ≤ x) (omega arith) e
    ]

    kept : (r : Last p place n m) → (p m → place m ≤ place r.at) → Last p place n (suc m)
    kept r e = record { at = r.at; within = r.within; holds = r.holds; last = more (place r.at) r.last e }

    from : Dec (p m) → Last p place n m → Last p place n (suc m)
    from (no x) r = kept r (λ y. absurd (x y))
    from (yes x) r = elim (dec_le (place m) (place r.at)) [
      | yes b ↦ kept r (λ y. b)
      | no b ↦
          record {
            at = m;
            within = g;
            holds = x;
            last = more (place m) (λ i c y. let d = r.last i c y in omega arith) (λ y. le_refl (place m));
          }
    ]

-- Claim 9. Of the sessions not after k in increasing workahead take the one that is last in the other order: none is after it there,
-- and it has no more workahead than k.
pub claim_nine :
    (place : ℕ → ℕ) (w : ℕ → ℤ) (u : ℕ → ℕ) (n : ℕ) → 0 < n → slack_by place w u n ≤ℤ slack w u n
claim_nine place w u n z = slack_from (rank w n) w u n (slack_by place w u n) z spare
  where
    spare : (k : ℕ) → k < n → slack_by place w u n ≤ℤ spare_by (rank w n) w u n k
    spare k l =
        let r =
        last_of (λ i. rank w n i ≤ rank w n k) (λ i. dec_le (rank w n i) (rank w n k)) place n k l (le_refl (rank w n k)) n (le_refl n) in
        ≤ℤ-trans (slack_least place w u n r.at r.within)
        (less_grows (w r.at) (w k) _ _ (rank_first w n r.at k r.within l r.holds)
        (load_part (λ i. i) place (rank w n) u u n n k r.at (λ i b. b) (λ i j b c. b) r.last (λ i b. le_refl (u i))))

-- A lighter load has no less slack: leave out sessions, shorten times, put more ahead.
pub slack_lighter :
    (e : ℕ → ℕ) (w v : ℕ → ℤ) (u t : ℕ → ℕ) (m n : ℕ) → 0 < m → ((i : ℕ) → i < m → e i < n) →
    ((i j : ℕ) → i < j → j < m → e i < e j) → ((i : ℕ) → i < m → w (e i) ≤ℤ v i) →
    ((i : ℕ) → i < m → t i ≤ u (e i)) → slack w u n ≤ℤ slack v t m
slack_lighter e w v u t m n z inside rising ahead times =
    let place : ℕ → ℕ = λ i. rank w n (e i) in
    ≤ℤ-trans (slack_part e (rank w n) place w v u t m n z inside rising (λ i j l k h. h) ahead times) (claim_nine place v t m z)
