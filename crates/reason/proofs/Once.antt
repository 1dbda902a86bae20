-- Each show has one reason, and no two. Assumes nothing.
use Rattle.std.specs.Prelude.{Ok, Err, Some, None}
use Prim.Native.Nat.{ℕ}
use mathlib.Core.Path.{◌≡◌, refl, sym, ◌∙◌, ap, ap₂}
use mathlib.Core.Logic.{inl, inr}
use Rattle.show.specs.Outcomes.{Check}
use Rattle.show.specs.declared.Show.{Show}
use Rattle.show.specs.Limits.{ShowWithin, buffer_most}
use Rattle.show.specs.Checks.{show_check}
use Rattle.show.proofs.Shows.{check_within}
use Rattle.theory.specs.Counts.{Accepted}
use Rattle.theory.specs.Reasons.{widened, TooSmall}
use Rattle.theory.specs.Shows.{load_of}
use Rattle.theory.proofs.Reasons.{wide_accepted, too_small_refuses, too_small_once, reason_some}
use Rattle.theory.proofs.Shows.{show_sound}
use Rattle.verdict.proofs.Once.{within_outside}
use Rattle.reason.specs.declared.Reason.TheVariants as reason
use Rattle.reason.specs.Answers.{Reasoned, ReasonIs, none, overload, beyond, buffer, outside}
use Rattle.reason.proofs.Reasons.{limit}

module _ (s : Show) where
  -- Too small a buffer is for a no, ..
  small_refuses : {i size : ℕ} → ShowWithin s → TooSmall (load_of s) buffer_most i size → Accepted (load_of s) → ⊥
  small_refuses {i} {size} w = too_small_refuses (load_of s) buffer_most (limit s w) i size

  -- .. and so is each reason: what is accepted would be accepted with the largest buffers.
  wide : ShowWithin s → Accepted (load_of s) → Accepted (widened buffer_most (load_of s))
  wide w = wide_accepted (load_of s) buffer_most (limit s w)

  pub reason_once : (p q : Reasoned) → ReasonIs s p → ReasonIs s q → p ≡ q
  reason_once p q (none w a) (none v b) = refl
  reason_once p q (none w a) (overload v b) = absurd (b a.0 a.1.counted a.1.augmenting)
  reason_once p q (none w a) (beyond v b) = absurd (b.refused (wide w a))
  reason_once p q (none w a) (buffer i size v b) = absurd (small_refuses v b a)
  reason_once p q (none w a) (outside r e) = within_outside s r w e
  reason_once p q (overload w a) (none v b) = absurd (a b.0 b.1.counted b.1.augmenting)
  reason_once p q (overload w a) (overload v b) = refl
  reason_once p q (overload w a) (beyond v b) = absurd (b.keeps a)
  reason_once p q (overload w a) (buffer i size v b) = absurd (a b.counts b.smallest.good.counted b.smallest.good.augmenting)
  reason_once p q (overload w a) (outside r e) = within_outside s r w e
  reason_once p q (beyond w a) (none v b) = absurd (a.refused (wide v b))
  reason_once p q (beyond w a) (overload v b) = absurd (a.keeps b)
  reason_once p q (beyond w a) (beyond v b) = refl
  reason_once p q (beyond w a) (buffer i size v b) = absurd (a.refused (b.counts, b.smallest.good))
  reason_once p q (beyond w a) (outside r e) = within_outside s r w e
  reason_once p q (buffer i size w a) (none v b) = absurd (small_refuses w a b)
  reason_once p q (buffer i size w a) (overload v b) = absurd (b a.counts a.smallest.good.counted a.smallest.good.augmenting)
  reason_once p q (buffer i size w a) (beyond v b) = absurd (b.refused (a.counts, a.smallest.good))
  reason_once p q (buffer i x w a) (buffer j y v b) = let e = too_small_once (load_of s) buffer_most a b in ap₂ (λ (i size : ℕ). Ok (Some (reason.Buffer i size))) e.0 e.1
  reason_once p q (buffer i size w a) (outside r e) = within_outside s r w e
  reason_once p q (outside r e) (none v b) = within_outside s r v e
  reason_once p q (outside r e) (overload v b) = within_outside s r v e
  reason_once p q (outside r e) (beyond v b) = within_outside s r v e
  reason_once p q (outside r e) (buffer i size v b) = within_outside s r v e
  reason_once p q (outside r e) (outside t f) =
      let g : Err r ≡ Err t = sym e ∙ f in let same : r ≡ t = cc in ap Err same

  -- There is one.
  pub reason_given : (r : Reasoned) × ReasonIs s r
  reason_given = from (show_check s) refl
    where
      within : ShowWithin s → (r : Reasoned) × ReasonIs s r
      within w = elim (reason_some (load_of s) (show_sound s w) buffer_most) [
        | inl a ↦ (Ok None, none w a)
        | inr x ↦ elim x [
          | inl a ↦ ((Ok (Some reason.Overload)), overload w a)
          | inr y ↦ elim y [
            | inl a ↦ ((Ok (Some reason.Beyond)), beyond w a)
            | inr a ↦ (Ok (Some (reason.Buffer a.0 a.1.0)), buffer a.0 a.1.0 w a.1.1)
          ]
        ]
      ]

      from : (c : Check) → show_check s ≡ c → (r : Reasoned) × ReasonIs s r
      from (Ok tt) e = within (check_within s e)
      from (Err r) e = (Err r, outside r e)
