-- What one digit more does to a number: laws for `counted`, `longer` and the loop of `decimal`. Assumes nothing.
use Rattle.std.specs.Prelude.{Some, None, Option}
use Prim.Native.Nat.{ℕ, ◌+◌, ◌*◌, ◌-◌, ◌^◌, ◌≤◌, ◌<◌}
use mathlib.Core.Path.{◌≡◌, refl, sym, ap, ◌∙◌}
use mathlib.Core.List.{List, [], ◌∷◌}
use mathlib.Core.Logic.{ite, if_pos, if_neg}
use native.Mathlib.Decide.{dec_lt}
use native.Mathlib.Omega.{arith}
use native.Mathlib.Numerals.{add-one}
use lib.ListN.{length, drop, get_or, drop_of_length-le}
use lib.Seq.{drop-cons}
use Rattle.parse_numbers.specs.Numbers.{counted_of, digit_of, longer_by, spelled, fitting, decimal_of}

pub is_not : {p : Type 0} {n : ℕ} → Some n ≡ None → p
is_not e = absurd (let z : ◌≡◌ {A = ℕ} 0 1 = cc in let f : ⊥ = omega arith in f)

-- byte i, and what follows it
pub stands : (text : List ℕ) (i : ℕ) → i < length text → drop i text ≡ get_or text i 0 ∷ drop (i + 1) text
stands text i h = rw (add-one) (drop-cons text i 0 h)

-- ---- a byte

module _ (least most first b : ℕ) (other : (Option ℕ)) where
  pub counted_low : b < least → other ≡ counted_of least most first b other
  unfolding counted_of
  counted_low h = sym (if_pos (dec_lt b least) h other _)

  pub counted_high : least ≤ b → most < b → other ≡ counted_of least most first b other
  unfolding counted_of
  counted_high l h = sym (if_neg (dec_lt b least) (λ g. let f : ⊥ = omega arith in f) other _ ∙ if_pos (dec_lt most b) h other _)

  pub counted_within : least ≤ b → b ≤ most → Some (b - least + first) ≡ counted_of least most first b other
  unfolding counted_of
  counted_within l h =
      sym
      (if_neg (dec_lt b least) (λ g. let f : ⊥ = omega arith in f) other _
      ∙ if_neg (dec_lt most b) (λ g. let f : ⊥ = omega arith in f) other _)

pub ruleset counting = (counted_low, counted_high, counted_within)

pub counted_small :
    (k least most first b : ℕ) (other : (Option ℕ)) (d : ℕ) → most - least + first < k → ((e : ℕ) → other ≡ Some e → e < k) →
    counted_of least most first b other ≡ Some d → d < k
unfolding counted_of
counted_small k least most first b other d h else e = from (dec_lt b least) (dec_lt most b) e
  where
    from : (l : Dec (b < least)) (m : Dec (most < b)) → ite l other (ite m other (Some (b - least + first))) ≡ Some d → d < k
    from (yes l) m g = else d g
    from (no l) (yes m) g = else d g
    from (no l) (no m) g = let q : b - least + first ≡ d = cc in omega arith

-- ---- a digit more

pub fits : (n : ℕ) → n < 2 ^ 64 → Some n ≡ fitting (Some n)
unfolding fitting
fits n h = sym (if_pos (dec_lt n (2 ^ 64)) h (Some n) None)

pub too_large : (n : ℕ) → 2 ^ 64 ≤ n → None ≡ fitting (Some n)
unfolding fitting
too_large n h = sym (if_neg (dec_lt n (2 ^ 64)) (λ g. let f : ⊥ = omega arith in f) (Some n) None)

module _ (n : ℕ) (found : (Option ℕ)) where
  pub longer_none : found ≡ None → None ≡ fitting (longer_by 10 (Some n) found)
  unfolding longer_by fitting
  longer_none e = rw e

  pub longer_fits : (d : ℕ) → found ≡ Some d → 10 * n + d < 2 ^ 64 → Some (10 * n + d) ≡ fitting (longer_by 10 (Some n) found)
  unfolding longer_by
  longer_fits d e h = rw e (fits (10 * n + d) h)

  pub longer_large : (d : ℕ) → found ≡ Some d → 2 ^ 64 ≤ 10 * n + d → None ≡ fitting (longer_by 10 (Some n) found)
  unfolding longer_by
  longer_large d e h = rw e (too_large (10 * n + d) h)

pub ruleset longer_cases = (longer_none, longer_fits, longer_large)

-- ---- a text

-- what is of 64 bits is not changed
pub fitting_is : (x : (Option ℕ)) (n : ℕ) → fitting x ≡ Some n → (x ≡ Some n) × (n < 2 ^ 64)
unfolding fitting
fitting_is None n e = is_not (sym e)
fitting_is (Some m) n e = from (dec_lt m (2 ^ 64)) e
  where
    from : (d : Dec (m < 2 ^ 64)) → ite d (Some m) None ≡ Some n → (Some m ≡ Some n) × (n < 2 ^ 64)
    from (yes h) g = (g, let k : m ≡ n = cc in omega arith)
    from (no h) g = is_not (sym g)

-- a number that is none, or too large, stays so
pub lost_more : (x d : (Option ℕ)) → fitting x ≡ None → fitting (longer_by 10 x d) ≡ None
unfolding fitting longer_by
lost_more None d e = refl
lost_more (Some n) None e = refl
lost_more (Some n) (Some d) e = from (dec_lt n (2 ^ 64)) e
  where
    from : (t : Dec (n < 2 ^ 64)) → ite t (Some n) None ≡ None → ite (dec_lt (10 * n + d) (2 ^ 64)) (Some (10 * n + d)) None ≡ None
    from (yes h) g = is_not g
    from (no h) g = if_neg (dec_lt (10 * n + d) (2 ^ 64)) (λ k. h (omega arith)) (Some (10 * n + d)) None

pub lost : (text : List ℕ) (x : (Option ℕ)) → fitting x ≡ None → fitting (spelled x text) ≡ None
unfolding spelled
lost [] x e = e
lost (b ∷ text) x e = lost text (longer_by 10 x (digit_of b)) (lost_more x (digit_of b) e)

pub number_none : (text : List ℕ) → length text ≡ 0 → None ≡ decimal_of text
unfolding decimal_of
number_none [] e = refl
number_none (b ∷ text) e = absurd (let f : ⊥ = omega arith in f)

pub number_some : (text : List ℕ) → (length text ≡ 0 → ⊥) → fitting (spelled (Some 0) text) ≡ decimal_of text
unfolding decimal_of
number_some [] h = absurd (h refl)
number_some (b ∷ text) h = refl

-- ---- the loop, at byte i

pub record SoFar (text : List ℕ) (n i : ℕ) : Type 0 where
  pub within : i ≤ length text
  pub below : n < 2 ^ 64
  pub spells : spelled (Some n) (drop i text) ≡ spelled (Some 0) text

module _ (text : List ℕ) (n i : ℕ) (so : SoFar text n i) where
  spelled_more : i < length text → spelled (Some 0) text ≡ spelled (longer_by 10 (Some n) (digit_of (get_or text i 0))) (drop (i + 1) text)
  unfolding spelled
  spelled_more h = sym so.spells ∙ (rw (stands text i h))

  pub stopped : i < length text → (r : (Option ℕ)) → r ≡ fitting (longer_by 10 (Some n) (digit_of (get_or text i 0))) → r ≡ None → None ≡ decimal_of text
  stopped h r e z =
      sym (sym (number_some text (λ k. let f : ⊥ = omega arith in f))
      ∙ ap fitting (spelled_more h)
      ∙ lost (drop (i + 1) text) (longer_by 10 (Some n) (digit_of (get_or text i 0))) (sym e ∙ z))

  pub body : i < length text → (r : (Option ℕ)) (m : ℕ) → r ≡ fitting (longer_by 10 (Some n) (digit_of (get_or text i 0))) → r ≡ Some m → SoFar text m (i + 1)
  body h r m e z =
      let k = fitting_is (longer_by 10 (Some n) (digit_of (get_or text i 0))) m (sym e ∙ z) in
      record {
        within = omega arith;
        below = k.1;
        spells = ap (λ (x : (Option ℕ)). spelled x (drop (i + 1) text)) (sym k.0) ∙ sym (spelled_more h);
      }

  pub ended : (length text ≡ 0 → ⊥) → length text ≤ i → Some n ≡ decimal_of text
  unfolding spelled
  ended some h =
      fits n so.below
      ∙ ap fitting (let e : Some n ≡ spelled (Some n) (drop i text) = rw (drop_of_length-le text h) in e ∙ so.spells)
      ∙ number_some text some
