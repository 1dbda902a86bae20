-- Nothing looks at unused places: shows that agree below their counts have one reason and one load. Assumes nothing.
use Rattle.std.specs.Prelude.{Ok, Err}
use Prim.Native.Nat.{ℕ, ◌<◌}
use mathlib.Core.Path.{◌≡◌, refl, sym, ◌∙◌, ap}
use native.Mathlib.Omega.{arith}
use native.Mathlib.Nat.{le_antisymm, le_refl}
use Rattle.show.specs.Outcomes.{Check}
use Rattle.show.specs.declared.Show.{Show}
use Rattle.show.specs.Limits.{ShowWithin, Alike, buffer_most}
use Rattle.show.specs.Checks.{show_check}
use Rattle.show.proofs.Shows.{check_within, alike_check}
use Rattle.theory.specs.Counts.{Load, needed, Accepted, Smallest}
use Rattle.theory.specs.Lighter.{Lighter}
use Rattle.theory.specs.Reasons.{widened, NeverKeepsUp, TooSmall}
use Rattle.theory.specs.Shows.{load_of, eased}
use Rattle.theory.proofs.Lighter.{lighter_augmenting, lighter_good, lighter_accepted}
use Rattle.theory.proofs.Shows.{alike_back, alike_eased, eased_lighter, tenths_lighter}
use Rattle.verdict.proofs.Unused.{within_alike}
use Rattle.reason.specs.Answers.{Reasoned, ReasonIs, none, overload, beyond, buffer, outside, loaded_of}
use Rattle.reason.proofs.Answers.{load_refused, load_told}

-- Two loads of which neither is harder than the other.
module _ (l k : Load) (to : Lighter l k (λ i. i)) (from : Lighter k l (λ i. i)) where
  widen : (a b : Load) → Lighter a b (λ i. i) → Lighter (widened buffer_most a) (widened buffer_most b) (λ i. i)
  widen a b h =
      record {
        block = h.block;
        inside = h.inside;
        rising = h.rising;
        stream = λ i n.
            record {
              rate = (h.stream i n).rate;
              cushion = (h.stream i n).cushion;
              buffer = le_refl buffer_most;
              time = (h.stream i n).time;
            };
      }

  never_same : NeverKeepsUp l → NeverKeepsUp k
  never_same never m c a = never m (λ i n. c i (to.inside i n)) (lighter_augmenting l k (λ i. i) to m a)

  wide_same : Accepted (widened buffer_most l) → Accepted (widened buffer_most k)
  wide_same = lighter_accepted (widened buffer_most k) (widened buffer_most l) (λ i. i) (widen k l from)

  smallest_both : (m : ℕ → ℕ) → Smallest (widened buffer_most l) m → Smallest (widened buffer_most k) m
  smallest_both m h =
      record {
        good = lighter_good (widened buffer_most k) (widened buffer_most l) (λ i. i) (widen k l from) m h.good;
        least = λ o g i n. h.least o (lighter_good (widened buffer_most l) (widened buffer_most k) (λ i. i) (widen l k to) o g) i (from.inside i n);
      }

  needed_same : (i m : ℕ) → i < l.playing → needed k i m ≡ needed l i m
  needed_same i m n =
      let e = le_antisymm (from.stream i (to.inside i n)).cushion (to.stream i n).cushion in rw (e, from.block)

  buffer_same : (i : ℕ) → i < l.playing → (k.stream i).buffer ≡ (l.stream i).buffer
  buffer_same i n = le_antisymm (to.stream i n).buffer (from.stream i (to.inside i n)).buffer

  small_same : (i size : ℕ) → TooSmall l buffer_most i size → TooSmall k buffer_most i size
  small_same i size t =
      record {
        counts = t.counts;
        smallest = smallest_both t.counts t.smallest;
        session = to.inside i t.session;
        exact = t.exact ∙ sym (needed_same i (t.counts i) t.session);
        short = rw (buffer_same i t.session) t.short;
        lowest = λ j h.
            (let n : j < l.playing = (let s = t.session in omega arith) in rw (needed_same j (t.counts j) n, buffer_same j n) (t.lowest j h));
      }

module _ (s t : Show) (a : Alike s t) where
  lighter_to : ShowWithin s → Lighter (load_of s) (load_of t) (λ i. i)
  lighter_to w = eased_lighter s t (alike_eased s t a w)

  lighter_from : ShowWithin s → Lighter (load_of t) (load_of s) (λ i. i)
  lighter_from w = eased_lighter t s (alike_eased t s (alike_back s t a) (within_alike s t a w))

  pub alike_reason : (r : Reasoned) → ReasonIs s r → ReasonIs t r
  alike_reason r (none w x) = none (within_alike s t a w) (lighter_accepted (load_of t) (load_of s) (λ i. i) (lighter_from w) x)
  alike_reason r (overload w x) = overload (within_alike s t a w) (never_same (load_of s) (load_of t) (lighter_to w) (lighter_from w) x)
  alike_reason r (beyond w x) =
      beyond (within_alike s t a w)
      (record {
        keeps = λ never. x.keeps (never_same (load_of t) (load_of s) (lighter_from w) (lighter_to w) never);
        refused = λ y. x.refused (wide_same (load_of t) (load_of s) (lighter_from w) (lighter_to w) y);
      })
  alike_reason r (buffer i size w x) =
      buffer i size (within_alike s t a w) (small_same (load_of s) (load_of t) (lighter_to w) (lighter_from w) i size x)
  alike_reason r (outside v e) = outside v (sym (alike_check s t a) ∙ e)

pub alike_load : (s t : Show) → Alike s t → loaded_of s ≡ loaded_of t
alike_load s t a = by (show_check s) refl
  where
    by : (c : Check) → show_check s ≡ c → loaded_of s ≡ loaded_of t
    by (Err v) e = load_refused s v e ∙ sym (load_refused t v (sym (alike_check s t a) ∙ e))
    by (Ok tt) e =
        let w = check_within s e in
        let x = tenths_lighter s t (λ i. i) (eased (alike_eased s t a w)) in
        let y = tenths_lighter t s (λ i. i) (eased (alike_eased t s (alike_back s t a) (within_alike s t a w))) in
        load_told s e ∙ ap Ok (le_antisymm x y) ∙ sym (load_told t (sym (alike_check s t a) ∙ e))
