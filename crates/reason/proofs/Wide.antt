-- The show with the largest buffers: within the limits, and the load with the largest buffers. Assumes nothing.
use Prim.Native.Nat.{ℕ, ◌+◌, ◌≤◌, ◌<◌}
use mathlib.Core.Path.{◌≡◌, refl, sym, ◌∙◌, ap}
use mathlib.Core.List.{List}
use native.Mathlib.Omega.{arith}
use lib.ListN.{set}
use Rattle.show.specs.declared.Session.{Session}
use Rattle.show.specs.declared.Show.{Show}
use Rattle.show.specs.Limits.{ShowWithin, SessionWithin, session_at, no_session, buffer_most}
use Rattle.show.specs.Lists.{listed, padded}
use Rattle.show.proofs.Lists.{filled_more, filled_at}
use Rattle.cost.specs.Costs.{cost_of}
use Rattle.theory.specs.Counts.{Accepted, Smallest}
use Rattle.theory.specs.Lighter.{Lighter}
use Rattle.theory.specs.Reasons.{widened}
use Rattle.theory.specs.Shows.{load_of}
use Rattle.theory.proofs.Lighter.{same_lighter, lighter_good, lighter_accepted}
use Rattle.reason.specs.Steps.{roomy, widest_of}

-- ---- filling the row

pub record WideTo (s : Show) (sessions : List Session) (i : ℕ) : Type 0 where
  pub inside : i ≤ s.playing
  pub row : sessions ≡ padded 16 no_session (listed (λ k. roomy (session_at s k)) i)

pub wide_body :
    (s : Show) → ShowWithin s → (sessions : List Session) (i : ℕ) (x : Session) → WideTo s sessions i → i < s.playing →
    x ≡ roomy (session_at s i) → WideTo s (set sessions i x) (i + 1)
wide_body s w sessions i x h l e =
    record {
      inside = omega arith;
      row = rw (h.row, e) (filled_more 16 no_session (λ k. roomy (session_at s k)) i (let n = w.counts.sessions in omega arith));
    }

pub wide_ended :
    (s : Show) (sessions : List Session) (i : ℕ) → WideTo s sessions i → s.playing ≤ i →
    record { drive = s.drive; layouts = s.layouts; laid = s.laid; sessions = sessions; playing = s.playing } ≡ widest_of s
wide_ended s sessions i h l =
    ap
    (λ (x : List Session). record { drive = s.drive; layouts = s.layouts; laid = s.laid; sessions = x; playing = s.playing })
    (h.row ∙ ap (λ (n : ℕ). padded 16 no_session (listed (λ k. roomy (session_at s k)) n)) (let a = h.inside in omega arith))

-- ---- what it is

module _ (s : Show) where
  wide_at : (i : ℕ) → i < s.playing → session_at (widest_of s) i ≡ roomy (session_at s i)
  wide_at i l = filled_at 16 no_session (λ k. roomy (session_at s k)) s.playing i no_session l

  pub wide_within : ShowWithin s → ShowWithin (widest_of s)
  wide_within w =
      record {
        counts = w.counts;
        drive = w.drive;
        layouts = w.layouts;
        sessions = λ i l. rw (wide_at i l) (roomy_within (session_at s i) (w.sessions i l));
      }
    where
      roomy_within : (x : Session) → SessionWithin s.laid x → SessionWithin s.laid (roomy x)
      roomy_within x h =
          record { rate = h.rate; cushion = h.cushion; buffer = record { low = omega arith; high = omega arith }; layout = h.layout }

  wide_stream : (i : ℕ) → i < s.playing → (load_of (widest_of s)).stream i ≡ (widened buffer_most (load_of s)).stream i
  unfolding cost_of
  wide_stream i l = rw (wide_at i l)

  -- As a load it is no harder than the load with the largest buffers, and no easier.
  wide_lighter : Lighter (load_of (widest_of s)) (widened buffer_most (load_of s)) (λ i. i)
  wide_lighter = same_lighter _ _ refl refl wide_stream

  lighter_wide : Lighter (widened buffer_most (load_of s)) (load_of (widest_of s)) (λ i. i)
  lighter_wide = same_lighter _ _ refl refl (λ i l. sym (wide_stream i l))

  -- What is accepted of one is accepted of the other, with the same smallest set.
  pub wide_accepts : Accepted (widened buffer_most (load_of s)) → Accepted (load_of (widest_of s))
  wide_accepts = lighter_accepted (load_of (widest_of s)) (widened buffer_most (load_of s)) (λ i. i) wide_lighter

  pub wide_smallest : (m : ℕ → ℕ) → Smallest (load_of (widest_of s)) m → Smallest (widened buffer_most (load_of s)) m
  wide_smallest m h =
      record {
        good = lighter_good _ _ (λ i. i) lighter_wide m h.good;
        least = λ o g. h.least o (lighter_good _ _ (λ i. i) wide_lighter o g);
      }
