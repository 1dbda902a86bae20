-- What is answered of the smallest counts with the largest buffers. Assumes nothing.
use Rattle.std.specs.Prelude.{Ok, Err, Some, None}
use Prim.Native.Nat.{ℕ, ◌≤◌, ◌<◌}
use mathlib.Core.Path.{◌≡◌, refl, sym, ◌∙◌}
use mathlib.Core.List.{List}
use native.Mathlib.Omega.{arith}
use Rattle.show.specs.declared.Show.{Show}
use Rattle.show.specs.declared.refusal.Refusal.{Refusal}
use Rattle.show.specs.Limits.{ShowWithin, buffer_most}
use Rattle.cost.specs.Bound.{count_most}
use Rattle.theory.specs.Counts.{needed, Smallest}
use Rattle.theory.specs.Reasons.{widened}
use Rattle.theory.specs.Shows.{load_of}
use Rattle.theory.proofs.Overload.{overloaded_exactly}
use Rattle.theory.proofs.Rounds.{count_capped}
use Rattle.theory.proofs.Reasons.{own_smallest}
use Rattle.theory.proofs.Shows.{show_sound}
use Rattle.verdict.specs.Answers.{DecisionIs, set_of}
use Rattle.verdict.specs.declared.Decision.{Decision}
use Rattle.verdict.proofs.Sets.{row_smallest}
use Rattle.verdict.proofs.Decisions.{accepted_refused, accepted_if, accepted_set}
use Rattle.reason.specs.declared.Reason.TheVariants as reason
use Rattle.reason.specs.Answers.{ReasonIs, none, overload, beyond, buffer}
use Rattle.reason.specs.Steps.{widest_of, work_of, WorkSmall}
use Rattle.reason.specs.declared.work.Work.{Work}
use Rattle.reason.proofs.Loads.{full_overloads, part_keeps}
use Rattle.reason.proofs.Wide.{wide_within, wide_accepts, wide_smallest}

-- No buffer of a show within its limits is larger.
pub limit : (s : Show) → ShowWithin s → (i : ℕ) → i < s.playing → ((load_of s).stream i).buffer ≤ buffer_most
limit s w i l = (w.sessions i l).buffer.high

-- ---- what the tests before say

module _ (s : Show) (w : ShowWithin s) (x : Work) (e : x ≡ work_of (load_of s)) (g : WorkSmall x) where
  pub overloads : 1 ≤ x.whole → ReasonIs s (Ok (Some reason.Overload))
  overloads h = overload w ((overloaded_exactly (load_of s) (show_sound s w)).0 (full_overloads (load_of s) x e g h))

  module _ (keeps : x.whole < 1) (d : Decision) (h : DecisionIs (widest_of s) d) where
    -- Refused with the largest buffers.
    pub beyond_them : (r : Refusal) → d.verdict ≡ Err r → ReasonIs s (Ok (Some reason.Beyond))
    beyond_them r f =
        beyond w
        (record {
          keeps = λ never. part_keeps (load_of s) x e g keeps ((overloaded_exactly (load_of s) (show_sound s w)).1 never);
          refused = λ a. accepted_refused (sym f ∙ accepted_if (widest_of s) d h (wide_within s w) (wide_accepts s a));
        })

-- Accepted with them, the counts are the smallest.
pub wide_counts :
    (s : Show) (d : Decision) → DecisionIs (widest_of s) d → d.verdict ≡ Ok tt →
    Smallest (widened buffer_most (load_of s)) (set_of d.counts)
wide_counts s d h e =
    let a = accepted_set (widest_of s) d h e in
    wide_smallest s (set_of d.counts)
    (rw a.answer (row_smallest (load_of (widest_of s)) a.set a.smallest))

-- ---- which session is short

-- The counts of the first i sessions fit.
pub record FitTo (s : Show) (counts : List ℕ) (i : ℕ) : Type 0 where
  pub inside : i ≤ s.playing
  pub fits : (j : ℕ) → j < i → needed (load_of s) j (set_of counts j) ≤ ((load_of s).stream j).buffer

-- Such a count is below the most that a buffer holds.
pub few :
    (s : Show) → ShowWithin s → (m : ℕ → ℕ) → Smallest (widened buffer_most (load_of s)) m → (i : ℕ) → i < s.playing → m i < count_most
few s w m h i l = count_capped (m i) _ _ buffer_most w.drive.block.low (omega arith) (h.good.feasible i l)

module _ (s : Show) (w : ShowWithin s) (counts : List ℕ) (m : Smallest (widened buffer_most (load_of s)) (set_of counts)) (i : ℕ) (h : FitTo s counts i) where
  -- The first that does not is the reason ..
  pub fit_broken :
      i < s.playing → ((load_of s).stream i).buffer < needed (load_of s) i (set_of counts i) →
      ReasonIs s (Ok (Some (reason.Buffer i (needed (load_of s) i (set_of counts i)))))
  fit_broken l g =
      buffer i _ w
      (record { counts = set_of counts; smallest = m; session = l; exact = refl; short = g; lowest = h.fits })

  -- .. and where all do, there is none.
  pub fit_ended : s.playing ≤ i → ReasonIs s (Ok None)
  fit_ended l =
      none w
      (set_of counts, (own_smallest (load_of s) buffer_most (limit s w) (set_of counts) m (λ j b. h.fits j (let a = h.inside in omega arith))).good)
