-- An order that names each session once: every place of it names a session, and no two the same. Assumes nothing.
use Prim.Native.Nat.{ℕ, zero, suc, ◌<◌}
use mathlib.Core.Path.{◌≡◌, refl, sym, ◌∙◌, ap}
use mathlib.Core.Logic.{ite, if_pos, if_neg}
use mathlib.Core.List.{List}
use native.Mathlib.Decide.{dec_lt, ℕ_discrete}
use native.Mathlib.Omega.{arith}
use lib.ListN.{get_or}
use Rattle.run.specs.Sound.{NamesEach}

-- The n places name numbers below n, no two the same.
record Apart (f : ℕ → ℕ) (n : ℕ) : Type 0 where
  below : (k : ℕ) → k < n → f k < n
  apart : (j k : ℕ) → j < n → k < n → f j ≡ f k → j ≡ k

-- a place that names i
abbrev Place : (ℕ → ℕ) → ℕ → ℕ → Type 0
Place f n i = (k : ℕ) × ((k < n) × (f k ≡ i))

-- ---- n places that name n numbers name them all

-- Without the last place: whoever named n now names what the last place did.
abbrev moved : (ℕ → ℕ) → ℕ → ℕ → ℕ
moved f n k = ite (ℕ_discrete (f k) n) (f n) (f k)

data Was (f : ℕ → ℕ) (n k : ℕ) : Type 0 where
  last : f k ≡ n → moved f n k ≡ f n → Was f n k
  same : (f k ≡ n → ⊥) → moved f n k ≡ f k → Was f n k

was : (f : ℕ → ℕ) (n k : ℕ) → Was f n k
was f n k = from (ℕ_discrete (f k) n)
  where
    from : Dec (f k ≡ n) → Was f n k
    from (yes e) = last e (if_pos (ℕ_discrete (f k) n) e (f n) (f k))
    from (no d) = same d (if_neg (ℕ_discrete (f k) n) d (f n) (f k))

module _ (f : ℕ → ℕ) (n : ℕ) (h : Apart f (suc n)) where
  -- no earlier place names what the last does
  early : (k : ℕ) → k < n → f k ≡ f n → ⊥
  early k l e = let s : k ≡ n = h.apart k n (omega arith) (omega arith) e in omega arith

  moved_below : (k : ℕ) → k < n → Was f n k → moved f n k < n
  moved_below k l (last e m) =
      let b = h.below n (omega arith) in
      let d : f n ≡ n → ⊥ = (λ g. early k l (e ∙ sym g)) in
      omega arith
  moved_below k l (same d m) = let b = h.below k (omega arith) in omega arith

  moved_once : (j k : ℕ) → j < n → k < n → moved f n j ≡ moved f n k → Was f n j → Was f n k → j ≡ k
  moved_once j k a b e (last p q) (last u v) = h.apart j k (omega arith) (omega arith) (p ∙ sym u)
  moved_once j k a b e (last p q) (same u v) = absurd (early k b (sym v ∙ sym e ∙ q))
  moved_once j k a b e (same p q) (last u v) = absurd (early j a (sym q ∙ e ∙ v))
  moved_once j k a b e (same p q) (same u v) = h.apart j k (omega arith) (omega arith) (sym q ∙ e ∙ v)

  moved_apart : Apart (moved f n) n
  moved_apart =
      record {
        below = λ k l. moved_below k l (was f n k);
        apart = λ j k a b e. moved_once j k a b e (was f n j) (was f n k);
      }

  -- where a number is named, by where it is named after the move
  before : (i : ℕ) → (f n ≡ i → ⊥) → Place (moved f n) n i → Place f (suc n) i
  before i d p = from (was f n p.0)
    where
      from : Was f n p.0 → Place f (suc n) i
      from (last e m) = absurd (d (sym m ∙ p.1.1))
      from (same e m) = (p.0, ((let l = p.1.0 in omega arith), sym m ∙ p.1.1))

  -- and where n is: at the place that moved
  before_last : (f n ≡ n → ⊥) → Place (moved f n) n (f n) → Place f (suc n) n
  before_last d p = from (was f n p.0)
    where
      from : Was f n p.0 → Place f (suc n) n
      from (last e m) = (p.0, ((let l = p.1.0 in omega arith), e))
      from (same e m) = absurd (early p.0 p.1.0 (sym m ∙ p.1.1))

  place_of : ((j : ℕ) → j < n → Place (moved f n) n j) → (i : ℕ) → i < suc n → Place f (suc n) i
  place_of there i l =
      elim (ℕ_discrete (f n) i) [
        | yes e ↦ (n, (omega arith, e))
        | no d ↦
            elim (ℕ_discrete i n) [
              | yes e ↦ named d e
              | no g ↦ before i d (there i (omega arith))
            ]
      ]
    where
      named : (f n ≡ i → ⊥) → i ≡ n → Place f (suc n) i
      named d e =
          let far : f n ≡ n → ⊥ = (λ g. d (g ∙ sym e)) in
          let p = before_last far (there (f n) (let b = h.below n (omega arith) in omega arith)) in
          (p.0, (p.1.0, p.1.1 ∙ sym e))

onto : (f : ℕ → ℕ) (n : ℕ) → Apart f n → (i : ℕ) → i < n → Place f n i
onto f zero h i l = absurd (let b : ⊥ = omega arith in b)
onto f (suc n) h i l = place_of f n h (onto (moved f n) n (moved_apart f n h)) i l

-- ---- the order

module _ (o : List ℕ) (n : ℕ) where
  abbrev at : ℕ → ℕ
  at k = get_or o k 0

  pub apart_names :
      ((k : ℕ) → k < n → at k < n) → ((j k : ℕ) → j < n → k < n → at j ≡ at k → j ≡ k) → NamesEach o n
  apart_names below apart i l =
      let p = onto at n (record { below = below; apart = apart }) i l in
      record {
        place = p.0;
        inside = p.1.0;
        names = p.1.1;
        only = λ k m e. apart k p.0 m p.1.0 (e ∙ sym p.1.1);
      }

  module _ (h : NamesEach o n) where
    -- where a number is named
    abbrev seat : (i : ℕ) → Dec (i < n) → ℕ
    seat i (yes l) = (h i l).place
    seat i (no m) = i

    seat_names : (i : ℕ) (d : Dec (i < n)) → i < n → (seat i d < n) × (at (seat i d) ≡ i)
    seat_names i (yes l) b = ((h i l).inside, (h i l).names)
    seat_names i (no m) b = absurd (m b)

    abbrev seated : ℕ → ℕ
    seated i = seat i (dec_lt i n)

    seats_apart : Apart seated n
    seats_apart =
        record {
          below = λ i l. (seat_names i (dec_lt i n) l).0;
          apart = λ i j a b e. sym (seat_names i (dec_lt i n) a).1 ∙ ap at e ∙ (seat_names j (dec_lt j n) b).1;
        }

    -- Each place is where some session is named.
    pub names_below : (k : ℕ) → k < n → at k < n
    names_below k l =
        let p = onto seated n seats_apart k l in
        let e : at k ≡ p.0 = sym (ap at p.1.1) ∙ (seat_names p.0 (dec_lt p.0 n) p.1.0).1 in
        let b = p.1.0 in
        omega arith

    pub names_apart : (j k : ℕ) → j < n → k < n → at j ≡ at k → j ≡ k
    names_apart j k a b e =
        let once = h (at k) (names_below k b) in
        once.only j a e ∙ sym (once.only k b refl)
