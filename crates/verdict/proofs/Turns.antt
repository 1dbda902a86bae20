-- The deciding loop: t is the sum of the times so far, and never above a time that sustains. A session's time is right up to where
-- its count is still ahead. Assumes nothing.
use Prim.Native.Nat.{ℕ, ◌+◌, ◌*◌, ◌-◌, ◌≤◌, ◌<◌}
use mathlib.Core.Path.{◌≡◌, sym, ◌∙◌, ap, subst}
use mathlib.Core.List.{List}
use native.Mathlib.Omega.{arith}
use native.Mathlib.Decide.{ℕ_discrete}
use native.Mathlib.Nat.{le_refl, le_trans, le_of_eq, lt_of_le_of_lt, mul-le-mul_left}
use lib.ListN.{length, get_or, set, replicate, length-set, length-replicate, get_or-replicate}
use lib.Seq.{get_or-set_same, get_or-set_other}
use borrow.Author.Count.{below_more}
use Rattle.show.specs.declared.Show.{Show}
use Rattle.show.specs.Limits.{ShowWithin}
use Rattle.cost.proofs.Bound.{bound_grows}
use Rattle.cost.proofs.Costs.{session_laws}
use Rattle.theory.specs.Sum.{sum_to}
use Rattle.theory.specs.Counts.{unit}
use Rattle.theory.specs.Rounds.{asked, next, Fits, NotPast}
use Rattle.theory.specs.Shows.{load_of}
use Rattle.theory.proofs.Sum.{sum_more, sum_same, sum_grows, sum_longer, sum_capped, sum_changed}
use Rattle.theory.proofs.Rounds.{need_least, unit_some, start_below, still_least}
use Rattle.theory.proofs.Shows.{show_sound}
use Rattle.verdict.specs.Steps.{round_most, EndIs, rates_of, Settled}
use Rattle.verdict.proofs.Ends.{fits_early}
use Rattle.verdict.proofs.Works.{asked_grows, work_below, next_small}

-- A session's time u is that of what any later time asks for while its work is below what is covered, and at most that from there on.
pub record Covered (s : Show) (i covered u t : ℕ) : Type 0 where
  pub same : (x : ℕ) → t ≤ x → rates_of s i * x < covered → u ≡ ((load_of s).stream i).time (asked (load_of s) x i)
  pub low : (x : ℕ) → t ≤ x → u ≤ ((load_of s).stream i).time (asked (load_of s) x i)

pub record Search (s : Show) (end : ℕ) (covered times : List ℕ) (t : ℕ) : Type 0 where
  pub low : NotPast (load_of s) t
  pub early : t < end
  pub adds : t ≡ sum_to (λ k. get_or times k 0) s.playing
  pub covers : length covered ≡ 16
  pub sized : length times ≡ 16
  pub kept : (k : ℕ) → k < s.playing → Covered s k (get_or covered k 0) (get_or times k 0) t

abbrev zeros : List ℕ
zeros = replicate 16 0

-- A turn that began at `before`, up to session i: the counts passed are ahead over that.
pub record TurnTo (s : Show) (end before : ℕ) (covered times : List ℕ) (t i : ℕ) : Type 0 where
  pub inside : i ≤ s.playing
  pub since : before ≤ t
  pub search : Search s end covered times t
  pub passed : (k : ℕ) → k < i → rates_of s k * before < get_or covered k 0

module _ (s : Show) (w : ShowWithin s) (end : ℕ) where
  pub begun : (end ≡ 0 → ⊥) → Search s end zeros zeros 0
  begun z =
      let n = w.counts.sessions in
      let none : (k : ℕ) → k < s.playing → get_or zeros k 0 ≡ 0 = (λ k l. get_or-replicate 16 k 0 0 (omega arith)) in
      record {
        low = start_below (load_of s) (show_sound s w);
        early = omega arith;
        adds = (let g = sum_capped (λ k. get_or zeros k 0) 0 s.playing (λ k l. le_of_eq (none k l)) in omega arith);
        covers = length-replicate {A = ℕ} 16 0;
        sized = length-replicate {A = ℕ} 16 0;
        kept = λ k l.
            record {
              same = λ x h b. absurd (let z = none k l in let f : ⊥ = omega arith in f);
              low = λ x h. (let z = none k l in omega arith);
            };
      }

-- A turn at session i.
module _
    (s : Show) (w : ShowWithin s) (end before : ℕ) (covered times : List ℕ) (t i : ℕ)
    (h : TurnTo s end before covered times t i) (l : i < s.playing)
  where
    -- A session's time is a part of t.
    pub part : get_or times i 0 ≤ t
    part =
        let most = sum_longer (λ k. get_or times k 0) {m = i + 1} {n = s.playing} (omega arith) in
        let a = h.search.adds in
        omega (arith, sum_more (λ k. get_or times k 0) i)

    -- A count that is still ahead stays ..
    pub stays : (r : ℕ) → r ≡ rates_of s i → r * t < get_or covered i 0 → TurnTo s end before covered times t (i + 1)
    stays r q g =
        record {
          inside = omega arith;
          since = h.since;
          search = h.search;
          passed = below_more _ _ h.passed (lt_of_le_of_lt (mul-le-mul_left (rates_of s i) h.since) (rw (sym q) g));
        }

    -- .. and another becomes what t asks for, which takes u.
    module _ (u : ℕ) (e : u ≡ ((load_of s).stream i).time (asked (load_of s) t i)) where
      abbrev later : ℕ
      later = t - get_or times i 0 + u

      abbrev timed : List ℕ
      timed = set times i u

      at_times : i < length times
      at_times = let n = w.counts.sessions in let z = h.search.sized in omega arith

      at_covered : i < length covered
      at_covered = let n = w.counts.sessions in let z = h.search.covers in omega arith

      longer : get_or times i 0 ≤ u
      longer = rw e ((h.search.kept i l).low t (le_refl t))

      grows : t ≤ later
      grows = let a = longer in let b = part in omega arith

      u_low : (x : ℕ) → t ≤ x → u ≤ ((load_of s).stream i).time (asked (load_of s) x i)
      u_low x g = rw e (bound_grows (session_laws s w i l) _ _ (asked_grows s w i g))

      times_low : (x : ℕ) → t ≤ x → (k : ℕ) → k < s.playing → get_or timed k 0 ≤ ((load_of s).stream k).time (asked (load_of s) x k)
      times_low x g k m = elim (ℕ_discrete k i) [
        | yes f ↦
            subst (λ (j : ℕ). get_or timed j 0 ≤ ((load_of s).stream j).time (asked (load_of s) x j)) (sym f)
            (rw (get_or-set_same times i u 0 at_times) (u_low x g))
        | no f ↦ rw (get_or-set_other times i k u 0 f) ((h.search.kept k m).low x g)
      ]

      sums : later ≡ sum_to (λ k. get_or timed k 0) s.playing
      sums =
          let p = sum_changed (λ k. get_or times k 0) (λ k. get_or timed k 0) s.playing i l (λ k m f. sym (get_or-set_other times i k u 0 f)) in
          let q = get_or-set_same times i u 0 at_times in
          let a = h.search.adds in
          let b = part in
          omega arith

      -- No time from t on asks for a shorter round.
      reached : (x : ℕ) → t ≤ x → later ≤ next (load_of s) x
      reached x g = le_trans (le_of_eq sums) (sum_grows _ _ s.playing (times_low x g))

      pub later_below : NotPast (load_of s) later
      later_below x g = le_trans (reached x (h.search.low x g)) g

      pub later_small : Fits (load_of s) t → later < round_most
      later_small f = let a = reached t (le_refl t) in let b = next_small s w t f in omega arith

      module _ (count : ℕ) (c : count ≡ asked (load_of s) t i) where
        abbrev covers : List ℕ
        covers = set covered i (count * unit (load_of s))

        kept_here : Covered s i (get_or covers i 0) (get_or timed i 0) later
        kept_here =
            rw (get_or-set_same covered i (count * unit (load_of s)) 0 at_covered, get_or-set_same times i u 0 at_times)
            (record {
              same = λ x g b.
                  (let most : asked (load_of s) x i ≤ count = need_least (rates_of s i) (unit (load_of s)) x count (unit_some (load_of s) (show_sound s w)) b in
                  let least = asked_grows s w i (le_trans grows g) in
                  e ∙ ap ((load_of s).stream i).time (omega arith));
              low = λ x g. u_low x (le_trans grows g);
            })

        kept_all : (k : ℕ) → k < s.playing → Covered s k (get_or covers k 0) (get_or timed k 0) later
        kept_all k m = elim (ℕ_discrete k i) [
          | yes f ↦ subst (λ (j : ℕ). Covered s j (get_or covers j 0) (get_or timed j 0) later) (sym f) kept_here
          | no f ↦
              rw (get_or-set_other covered i k (count * unit (load_of s)) 0 f, get_or-set_other times i k u 0 f)
              (record {
                same = λ x g. (h.search.kept k m).same x (le_trans grows g);
                low = λ x g. (h.search.kept k m).low x (le_trans grows g);
              })
        ]

        pub changes : later < end → TurnTo s end before covers timed later (i + 1)
        changes g =
            record {
              inside = omega arith;
              since = le_trans h.since grows;
              search =
                  record {
                    low = later_below;
                    early = g;
                    adds = sums;
                    covers = length-set covered i (count * unit (load_of s)) ∙ h.search.covers;
                    sized = length-set times i u ∙ h.search.sized;
                    kept = kept_all;
                  };
              passed =
                  below_more _ _
                  (λ k m. rw (get_or-set_other covered i k (count * unit (load_of s)) 0 (λ f. let none : ⊥ = omega arith in none)) (h.passed k m))
                  (rw (get_or-set_same covered i (count * unit (load_of s)) 0 at_covered, c)
                  (lt_of_le_of_lt (mul-le-mul_left (rates_of s i) h.since) (work_below s w i t)));
            }

-- At the end of a turn that left t as it was the search is over.
module _ (s : Show) (w : ShowWithin s) (end : ℕ) (covered times : List ℕ) (t : ℕ) where
  pub settled :
      (before i : ℕ) → TurnTo s end before covered times t i → EndIs s end → s.playing ≤ i → t ≤ before → Settled s t
  settled before i h e l g =
      let inside = h.inside in
      let fits = fits_early s w end e t h.search.early in
      let ahead : (k : ℕ) → k < s.playing → rates_of s k * t < get_or covered k 0 =
      (λ k m. lt_of_le_of_lt (mul-le-mul_left (rates_of s k) g) (h.passed k (omega arith))) in
      let still : t ≡ next (load_of s) t =
      h.search.adds ∙ sum_same _ _ s.playing (λ k m. (h.search.kept k m).same t (le_refl t) (ahead k m)) in
      record {
        least = still_least (load_of s) (show_sound s w) t h.search.low (le_of_eq (sym still));
        fits = fits;
        small = (let a = next_small s w t fits in omega arith);
      }
