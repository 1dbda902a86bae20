-- What the test of a show says: it passes exactly if every limit is kept, and nothing above a count is looked at. Assumes nothing.
use Rattle.std.specs.Prelude.{Ok}
use Prim.Native.Nat.{ℕ, ◌<◌}
use mathlib.Core.Path.{◌≡◌, ◌∙◌}
use Rattle.show.specs.declared.Show.{Show}
use Rattle.show.specs.declared.refusal.Refusal.TheVariants.{Counts, DriveLimits, LayoutLimits, SessionLimits}
use Rattle.show.specs.Limits.{CountsWithin, DriveWithin, LaidWithin, PlayingWithin, ShowWithin, Alike, layout_at, session_at}
use Rattle.show.specs.Decisions.{counts?, drive?, layout?, session?}
use Rattle.show.specs.Checks.{first, counts_check, drive_check, layout_check, layouts_check, session_check, sessions_check, limits_check, show_check}
use Rattle.show.proofs.Checks.{unless_kept, unless_within, first_within, first_left, first_right, below_same}
use Rattle.show.proofs.Rows.{row_within, row_kept}

module _ (s : Show) where
  -- Where 2 is passed, 5, 6 and 7 are left.
  pub limits_left : CountsWithin s.laid s.playing → show_check s ≡ limits_check s
  unfolding show_check
  limits_left c = first_within _ _ (unless_kept (counts? s.laid s.playing) Counts c)

  -- Where 2 and 5 are passed, 6 and 7 are left.
  pub rows_left :
      CountsWithin s.laid s.playing → DriveWithin s.drive → show_check s ≡ first (layouts_check s) (sessions_check s)
  rows_left c d = limits_left c ∙ first_within _ _ (unless_kept (drive? s.drive) DriveLimits d)

  pub layouts_within : layouts_check s ≡ Ok tt → (i : ℕ) → i < s.laid → LaidWithin s i
  layouts_within = row_within (LaidWithin s) (λ i. layout? (layout_at s i)) LayoutLimits s.laid

  pub layouts_kept : ((i : ℕ) → i < s.laid → LaidWithin s i) → layouts_check s ≡ Ok tt
  layouts_kept = row_kept (LaidWithin s) (λ i. layout? (layout_at s i)) LayoutLimits s.laid

  sessions_within : sessions_check s ≡ Ok tt → (i : ℕ) → i < s.playing → PlayingWithin s i
  sessions_within = row_within (PlayingWithin s) (λ i. session? s.laid (session_at s i)) SessionLimits s.playing

  sessions_kept : ((i : ℕ) → i < s.playing → PlayingWithin s i) → sessions_check s ≡ Ok tt
  sessions_kept = row_kept (PlayingWithin s) (λ i. session? s.laid (session_at s i)) SessionLimits s.playing

  -- A show passes exactly if it is within every limit.
  pub check_within : show_check s ≡ Ok tt → ShowWithin s
  unfolding show_check
  check_within e =
      let limits = first_right (counts_check s.laid s.playing) (limits_check s) e in
      let rows = first_right (drive_check s.drive) (first (layouts_check s) (sessions_check s)) limits in
      record {
        counts = unless_within (counts? s.laid s.playing) Counts (first_left (counts_check s.laid s.playing) (limits_check s) e);
        drive = unless_within (drive? s.drive) DriveLimits (first_left (drive_check s.drive) (first (layouts_check s) (sessions_check s)) limits);
        layouts = layouts_within (first_left (layouts_check s) (sessions_check s) rows);
        sessions = sessions_within (first_right (layouts_check s) (sessions_check s) rows);
      }

  pub within_check : ShowWithin s → show_check s ≡ Ok tt
  within_check w =
      rows_left w.counts w.drive ∙ first_within _ _ (layouts_kept w.layouts) ∙ sessions_kept w.sessions

-- Places above a count are not looked at: shows that agree below their counts get the same answer.
pub alike_check : (s t : Show) → Alike s t → show_check s ≡ show_check t
unfolding show_check
alike_check s t a =
    let layouts : layouts_check s ≡ layouts_check t =
    below_same (layout_check s) (layout_check t) s.laid (λ i l. rw (a.layouts i l)) ∙ rw a.laid in
    let sessions : sessions_check s ≡ sessions_check t =
    below_same (session_check s) (session_check t) s.playing (λ i l. rw (a.sessions i l, a.laid)) ∙ rw a.playing in
    rw (layouts, sessions, a.drive, a.laid, a.playing)
