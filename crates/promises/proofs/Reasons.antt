-- Why it was a no, by citation. Assumes nothing.
use Rattle.std.specs.Prelude.{Ok, Err, Some, None, true}
use Prim.Native.Nat.{ℕ, ◌*◌, ◌/◌, ◌≤◌, ◌<◌}
use mathlib.Core.Path.{◌≡◌, refl, sym, ◌∙◌, ap, ap₂, subst}
use mathlib.Core.List.{◌∷◌, []}
use mathlib.Core.Logic.{◌⊎◌, inl, inr, ◌↔◌, ite, if_pos, if_neg}
use native.Mathlib.Omega.{arith}
use native.Mathlib.Nat.{le_refl, mul_comm, mul_assoc}
use native.Mathlib.Decide.{dec_lt, ℕ_discrete}
use Rattle.show.specs.declared.Show.{Show}
use Rattle.show.specs.declared.refusal.Refusal.{Refusal}
use Rattle.show.specs.declared.refusal.Refusal.TheVariants.{NoSet}
use Rattle.show.specs.Limits.{ShowWithin, buffer_most}
use Rattle.show.specs.Checks.{show_check}
use Rattle.show.proofs.Shows.{within_check}
use Rattle.cost.specs.Costs.{cost_of}
use Rattle.theory.specs.Counts.{needed, unit, Accepted, whole_load}
use Rattle.theory.specs.Reasons.{NeverKeepsUp, Beyond, TooSmall, tenths}
use Rattle.theory.specs.Shows.{load_of}
use Rattle.theory.proofs.Sum.{sum_same}
use Rattle.theory.proofs.Overload.{overloaded_exactly, whatever_buffers, tenths_overload}
use Rattle.theory.proofs.Reasons.{wide_accepted, too_small_refuses, size_needed, size_enough, size_within, ask_again}
use Rattle.theory.proofs.Shows.{show_sound}
use Rattle.verdict.specs.declared.Decision.{Decision}
use Rattle.verdict.specs.Answers.{DecisionIs, accepted, no_set, outside}
use Rattle.verdict.proofs.Once.{within_outside}
use Rattle.verdict.proofs.Decisions.{accepted_exactly, accepted_refused}
use Rattle.reason.specs.declared.Reason.TheVariants as reason
use Rattle.reason.specs.Answers.{Reasoned, ReasonIs, none, overload, beyond, buffer}
use Rattle.reason.specs.Answers as why
use Rattle.reason.proofs.Answers.{load_told}
use Rattle.reason.proofs.Reasons.{limit}
use Rattle.reason.proofs.Once.{reason_once}
use Rattle.reason.proofs.Unused.{alike_reason, alike_load}
use Rattle.promises.specs.Refusals.{OneOf}
use Rattle.promises.proofs.Says.{same_refusal}
use Rattle.promises.proofs.Only.{only}
use Rattle.promises.specs.Reasons.{ForEight, WhenTrue, AsDecided, ExactSize, Reasons, load_sum, full_load}

-- ---- when true

-- What stands behind each answer.
module _ (s : Show) where
  of_none : ReasonIs s (Ok None) → ShowWithin s × Accepted (load_of s)
  of_none (none w a) = (w, a)

  of_overload : ReasonIs s (Ok (Some reason.Overload)) → ShowWithin s × NeverKeepsUp (load_of s)
  of_overload (overload w a) = (w, a)

  of_beyond : ReasonIs s (Ok (Some reason.Beyond)) → ShowWithin s × Beyond (load_of s) buffer_most
  of_beyond (beyond w a) = (w, a)

  of_buffer : (i size : ℕ) → ReasonIs s (Ok (Some (reason.Buffer i size))) → ShowWithin s × TooSmall (load_of s) buffer_most i size
  of_buffer i size (buffer j more w a) = (w, a)

  of_refused : (w : Refusal) → ReasonIs s (Err w) → show_check s ≡ Err w
  of_refused w (why.outside v out) = out

  one_of : (r : Reasoned) → ReasonIs s r → ShowWithin s → (r ≡ Ok None) ⊎ ForEight r
  one_of r (none w a) v = inl refl
  one_of r (overload w a) v = inr (inl refl)
  one_of r (beyond w a) v = inr (inr (inl refl))
  one_of r (buffer i size w a) v = inr (inr (inr (i, (size, refl))))
  one_of r (why.outside w e) v = within_outside s w v e

  when_true : (r : Reasoned) → ReasonIs s r → WhenTrue s r
  when_true r h =
      record {
        none = (λ e. of_none (subst (ReasonIs s) e h), λ p. reason_once s r (Ok None) h (none p.0 p.1));
        overload = (λ e. of_overload (subst (ReasonIs s) e h), λ p. reason_once s r (Ok (Some reason.Overload)) h (overload p.0 p.1));
        beyond = (λ e. of_beyond (subst (ReasonIs s) e h), λ p. reason_once s r (Ok (Some reason.Beyond)) h (beyond p.0 p.1));
        buffer = λ i size.
            (λ e. of_buffer i size (subst (ReasonIs s) e h), λ p. reason_once s r (Ok (Some (reason.Buffer i size))) h (buffer i size p.0 p.1));
        refused = λ w. (λ e. of_refused w (subst (ReasonIs s) e h), λ e. reason_once s r (Err w) h (why.outside w e));
        one = one_of r h;
      }

-- ---- as decided

-- The limits do not say 8.
not_eight : {A : Type 0} (s : Show) → show_check s ≡ Err NoSet → A
not_eight s e = by (only.check s NoSet e)
  where
    by : {A : Type 0} → OneOf (2 ∷ 5 ∷ 6 ∷ 7 ∷ []) 8 → A
    by (inl z) = absurd (let f : ⊥ = omega arith in f)
    by (inr (inl z)) = absurd (let f : ⊥ = omega arith in f)
    by (inr (inr (inl z))) = absurd (let f : ⊥ = omega arith in f)
    by (inr (inr (inr (inl z)))) = absurd (let f : ⊥ = omega arith in f)
    by (inr (inr (inr (inr z)))) = absurd z

module _ (s : Show) where
  -- A reason for an 8 is a reason within the limits, and for a no.
  eight_within : (r : Reasoned) → ReasonIs s r → ForEight r → ShowWithin s × (Accepted (load_of s) → ⊥)
  eight_within r h (inl e) =
      let x = of_overload s (subst (ReasonIs s) e h) in (x.0, λ a. x.1 a.0 a.1.counted a.1.augmenting)
  eight_within r h (inr (inl e)) =
      let x = of_beyond s (subst (ReasonIs s) e h) in
      (x.0, λ a. x.1.refused (wide_accepted (load_of s) buffer_most (limit s x.0) a))
  eight_within r h (inr (inr y)) =
      let x = of_buffer s y.0 y.1.0 (subst (ReasonIs s) y.1.1 h) in
      (x.0, too_small_refuses (load_of s) buffer_most (limit s x.0) y.0 y.1.0 x.1)

  -- Within the limits and not accepted is an 8.
  said_eight : (d : Decision) → DecisionIs s d → ShowWithin s → (Accepted (load_of s) → ⊥) → d.verdict ≡ Err NoSet
  said_eight d (accepted m w h) v no_one = absurd (no_one (m, h.good))
  said_eight d (no_set w h) v no_one = refl
  said_eight d (outside w e) v no_one = within_outside s w v e

  module _ (r : Reasoned) (h : ReasonIs s r) where
    yes_both : (d : Decision) → DecisionIs s d → (r ≡ Ok None) ↔ (d.verdict ≡ Ok tt)
    yes_both d g =
        (λ e. (accepted_exactly s d g).1 ((when_true s r h).none.0 e), λ e. (when_true s r h).none.1 ((accepted_exactly s d g).0 e))

    eight_back : (d : Decision) → DecisionIs s d → d.verdict ≡ Err NoSet → ForEight r
    eight_back d (accepted m w g) e = accepted_refused (sym e)
    eight_back d (no_set w g) e = elim (one_of s r h w) [ inl n ↦ absurd (g (of_none s (subst (ReasonIs s) n h)).1) | inr f ↦ f ]
    eight_back d (outside w out) e = not_eight s (out ∙ ap Err (same_refusal e))

    limits_both : (d : Decision) → DecisionIs s d → (w : Refusal) → r ≡ Err w → d.verdict ≡ Err w
    limits_both d (accepted m v g) w e = within_outside s w v (((when_true s r h).refused w).0 e)
    limits_both d (no_set v g) w e = within_outside s w v (((when_true s r h).refused w).0 e)
    limits_both d (outside v out) w e = ap Err (same_refusal (sym out ∙ ((when_true s r h).refused w).0 e))

  as_decided : (r : Reasoned) (d : Decision) → ReasonIs s r → DecisionIs s d → AsDecided r d
  as_decided r d h g =
      record {
        yes = yes_both r h d g;
        eight = (λ f. (let x = eight_within r h f in said_eight d g x.0 x.1), eight_back r h d g);
        limits = limits_both r h d g;
      }

-- ---- the size

module _ (s : Show) (i size : ℕ) (h : ReasonIs s (Ok (Some (reason.Buffer i size)))) where
  exact_size : ExactSize s i size
  exact_size =
      let x = of_buffer s i size h in
      let t = x.1 in
      record {
        needed = size_needed (load_of s) (show_sound s x.0) buffer_most i size t;
        within = size_within (load_of s) buffer_most i size t;
        enough = size_enough (load_of s) buffer_most i size t (λ j. ite (ℕ_discrete j i) size buffer_most) (fits t);
        again = ask_again (load_of s) buffer_most i size t;
      }
    where
      fits : (t : TooSmall (load_of s) buffer_most i size) → (j : ℕ) → j < s.playing → needed (load_of s) j (t.counts j) ≤ ite (ℕ_discrete j i) size buffer_most
      fits t j l = by (ℕ_discrete j i)
        where
          by : Dec (j ≡ i) → needed (load_of s) j (t.counts j) ≤ ite (ℕ_discrete j i) size buffer_most
          by (yes e) = rw (if_pos (ℕ_discrete j i) e size buffer_most, e, t.exact) (le_refl _)
          by (no e) = rw (if_neg (ℕ_discrete j i) e size buffer_most) (t.smallest.good.feasible j l)

-- ---- the load

-- The rule's line.
pub load_line : (s : Show) → whole_load (load_of s) ≡ load_sum s
unfolding load_sum cost_of
load_line s = sum_same _ _ s.playing (λ i l. rw (mul_comm _ s.drive.cylinder))

full_line : (s : Show) → s.drive.cylinder * unit (load_of s) ≡ full_load s
full_line s = sym (mul_assoc s.drive.cylinder s.drive.block 1000000)

tenths_line : (s : Show) → tenths (load_of s) ≡ load_sum s * 1000 / full_load s
unfolding tenths
tenths_line s = ap₂ (λ (v f : ℕ). v * 1000 / f) (load_line s) (full_line s)

sum_exactly : (s : Show) → ShowWithin s → NeverKeepsUp (load_of s) ↔ (full_load s ≤ load_sum s)
sum_exactly s w =
    let x = overloaded_exactly (load_of s) (show_sound s w) in
    (λ never. (let o = x.1 never in rw (← load_line s, ← full_line s) o), λ o. x.0 (rw (load_line s, full_line s) o))

reads : (s : Show) → ShowWithin s → NeverKeepsUp (load_of s) ↔ (1000 ≤ tenths (load_of s))
reads s w =
    let l = show_sound s w in
    let x = overloaded_exactly (load_of s) l in
    let y = tenths_overload (load_of s) l in
    (λ never. y.0 (x.1 never), λ h. x.0 (y.1 h))

pub reasons : Reasons
reasons =
    record {
      when_true = when_true;
      as_decided = as_decided;
      any_buffers = λ s. whatever_buffers (load_of s);
      even_hundred = sum_exactly;
      exact = exact_size;
      load = λ s w. load_told s (within_check s w) ∙ ap Ok (tenths_line s);
      reads = reads;
      accepted_reads = λ s w a. below s w a (dec_lt (tenths (load_of s)) 1000);
      unused = λ s t a. alike_reason s t a;
      unused_load = alike_load;
    }
  where
    below : (s : Show) → ShowWithin s → Accepted (load_of s) → Dec (tenths (load_of s) < 1000) → tenths (load_of s) < 1000
    below s w a (yes l) = l
    below s w a (no l) = absurd ((reads s w).1 (omega arith) a.0 a.1.counted a.1.augmenting)
