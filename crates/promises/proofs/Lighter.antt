-- Lighter shows, by the laws of lighter loads. Assumes nothing.
use Rattle.std.specs.Prelude.{Ok}
use Prim.Native.Nat.{ℕ, ◌*◌, ◌≤◌}
use mathlib.Core.Path.{◌≡◌, refl, sym, ap, subst}
use native.Mathlib.Omega.{arith}
use lib.ListN.{length}
use Rattle.show.specs.declared.Drive.{Drive}
use Rattle.show.specs.declared.Show.{Show}
use Rattle.show.specs.Limits.{ShowWithin}
use Rattle.theory.specs.Counts.{Load, Sound, Smallest}
use Rattle.theory.specs.Lighter.{Lighter}
use Rattle.theory.specs.Shows.{load_of, Lightened, left_out, without, stood_at}
use Rattle.theory.proofs.Lighter.{lighter_accepted, lighter_counts, lighter_times, lighter_rounds}
use Rattle.theory.proofs.Shows.{show_sound, lightened_lighter, left_out_within, lightened_drive, load_lighter, tenths_lighter}
use Rattle.verdict.specs.declared.Decision.{Decision}
use Rattle.verdict.specs.Answers.{DecisionIs, accepted_with}
use Rattle.verdict.proofs.Sets.{set_of_row}
use Rattle.verdict.proofs.Decisions.{accepted_set, accepted_if}
use Rattle.promises.specs.Lighter.{NoWorse}
use Rattle.promises.specs.Lighter as specs
use Rattle.promises.proofs.Reasons.{load_line}

-- The smallest sets of two loads, one lighter, as rows.
no_worse :
    (a b : Load) (e : ℕ → ℕ) → Sound a → Lighter a b e → (p m : ℕ → ℕ) → Smallest a p → Smallest b m →
    NoWorse a.playing e (accepted_with a p) (accepted_with b m)
no_worse a b e s t p m x y =
    record {
      accepted = refl;
      counts = λ i h.
          rw (set_of_row a p i h, set_of_row b m (e i) (t.inside i h)) (lighter_counts a b e t p m x y i h);
      times = λ i h.
          rw (set_of_row a (λ k. (a.stream k).time (p k)) i h, set_of_row b (λ k. (b.stream k).time (m k)) (e i) (t.inside i h))
          (lighter_times a b e t s p m x y i h);
      round = lighter_rounds a b e t s p m x y;
    }

lighter :
    (a b : Show) (e : ℕ → ℕ) → Lightened a b e → ShowWithin a → (d f : Decision) → DecisionIs a d → DecisionIs b f →
    f.verdict ≡ Ok tt → NoWorse a.playing e d f
lighter a b e t w d f g h yes-heavy =
    let u = lightened_lighter a b e t in
    let y = accepted_set b f h yes-heavy in
    let yes-light = accepted_if a d g w (lighter_accepted (load_of a) (load_of b) e u (y.set, y.smallest.good)) in
    let x = accepted_set a d g yes-light in
    subst (λ (r : Decision). NoWorse a.playing e r f) (sym x.answer)
    (subst (λ (r : Decision). NoWorse a.playing e (accepted_with (load_of a) x.set) r) (sym y.answer)
    (no_worse (load_of a) (load_of b) e (show_sound a w) u x.set y.set x.smallest y.smallest))

pub lighter_shows : specs.Lighter
lighter_shows =
    record {
      lighter = lighter;
      fewer = λ b k shaped h d f p q e.
          (let w = (accepted_set b f q e).within in
          let n = w.counts.sessions in
          let held : b.playing ≤ length b.sessions = omega (arith, shaped.sessions) in
          lighter (without k b) b (stood_at k) (left_out k h held) (left_out_within b k h held w) d f p q e);
      load = λ a b e h. rw (← load_line a, ← load_line b) (load_lighter a b e h);
      full = λ a b e h. ap (λ (d : Drive). d.cylinder * d.block * 1000000) (lightened_drive a b e h);
      told = tenths_lighter;
    }
