-- A show is refused with w exactly if it has the fault that w tells. Assumes nothing.
use Rattle.std.specs.Prelude.{Ok, Err}
use mathlib.Core.Path.{◌≡◌, refl, subst, ◌∙◌}
use Rattle.show.specs.Outcomes.{Check}
use Rattle.show.specs.declared.Show.{Show}
use Rattle.show.specs.declared.refusal.Refusal.{Refusal}
use Rattle.show.specs.declared.refusal.Refusal.TheVariants.{Counts, DriveLimits, LayoutLimits, SessionLimits}
use Rattle.show.specs.Limits.{CountsWithin, DriveWithin, LaidWithin, PlayingWithin, layout_at, session_at}
use Rattle.show.specs.Decisions.{counts?, drive?, layout?, session?}
use Rattle.show.specs.Checks.{unless, first, layouts_check, sessions_check, show_check}
use Rattle.show.specs.Faults.{Fault, counts, drive, layout, session}
use Rattle.show.proofs.Checks.{unless_kept, unless_broken, unless_refused, first_within, first_refused}
use Rattle.show.proofs.Rows.{row_lowest, row_offends}
use Rattle.show.proofs.Shows.{rows_left, layouts_within, layouts_kept}

module _ (s : Show) where
  faulted :
      {w : Refusal} (c : Dec (CountsWithin s.laid s.playing)) (d : Dec (DriveWithin s.drive)) (l : Check) →
      layouts_check s ≡ l → first (unless c Counts) (first (unless d DriveLimits) (first l (sessions_check s))) ≡ Err w →
      Fault s w
  faulted (no h) d l p e = subst (Fault s) (unless_refused (no h) Counts e).1 (counts h)
  faulted (yes c) (no h) l p e = subst (Fault s) (unless_refused (no h) DriveLimits e).1 (drive c h)
  faulted (yes c) (yes d) (Err v) p e =
      let r = row_lowest (LaidWithin s) (λ i. layout? (layout_at s i)) LayoutLimits s.laid (p ∙ e) in
      subst (Fault s) r.2 (layout c d r.1)
  faulted (yes c) (yes d) (Ok tt) p e =
      let r = row_lowest (PlayingWithin s) (λ i. session? s.laid (session_at s i)) SessionLimits s.playing e in
      subst (Fault s) r.2 (session c d (layouts_within s p) r.1)

  pub check_fault : {w : Refusal} → show_check s ≡ Err w → Fault s w
  unfolding show_check
  check_fault e = faulted (counts? s.laid s.playing) (drive? s.drive) (layouts_check s) refl e

  pub fault_check : {w : Refusal} → Fault s w → show_check s ≡ Err w
  unfolding show_check
  fault_check (counts h) = first_refused _ _ (unless_broken (counts? s.laid s.playing) Counts h)
  fault_check (drive c h) =
      first_within _ _ (unless_kept (counts? s.laid s.playing) Counts c)
      ∙ first_refused _ _ (unless_broken (drive? s.drive) DriveLimits h)
  fault_check (layout {i = i} c d l) =
      rows_left s c d
      ∙ first_refused _ _ (row_offends (LaidWithin s) (λ k. layout? (layout_at s k)) LayoutLimits s.laid i l)
  fault_check (session {i = i} c d all l) =
      rows_left s c d ∙ first_within _ _ (layouts_kept s all)
      ∙ row_offends (PlayingWithin s) (λ k. session? s.laid (session_at s k)) SessionLimits s.playing i l
