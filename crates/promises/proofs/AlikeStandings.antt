-- Standings that differ in unused places alone have the same slack. Assumes nothing.
use Prim.Native.Nat.{ℕ, ◌^◌, ◌<◌}
use mathlib.Core.Path.{◌≡◌, refl, sym, ap, subst, ◌∙◌}
use native.Mathlib.Decide.{dec_lt}
use native.Mathlib.Omega.{arith}
use lib.IntN.{ℤ}
use lib.Signed.{mag}
use Rattle.show.specs.declared.refusal.Refusal.{Refusal}
use Rattle.show.specs.declared.refusal.Refusal.TheVariants as refusal
use Rattle.show.specs.Checks.{unless}
use Rattle.show.proofs.Checks.{unless_within, first_right}
use Rattle.cost.specs.Bound.{worst_most}
use Rattle.theory.specs.Slack.{slack_by}
use Rattle.theory.proofs.Slack.{slack_same}
use Rattle.verdict.specs.Answers.{set_of}
use Rattle.showfile_write.proofs.Unused.{told_same}
use Rattle.standing.specs.declared.Standing.{Standing}
use Rattle.order.specs.Order.{ahead_in, place_in}
use Rattle.standing.specs.Standing.{Fit, standing_slack}
use Rattle.standing.specs.Decisions.{fit?}
use Rattle.workahead.specs.Answers.{timed}
use Rattle.standing.specs.Answers.{fit_check, someone_check, slack_for}
use Rattle.promises.specs.Unseen.{AlikeStandings}
use Rattle.promises.proofs.AlikeSteps.{first_same}

back : (s t : Standing) → AlikeStandings s t → AlikeStandings t s
back s t a =
    let e = a.playing in
    record {
      playing = sym e;
      aheads = λ i l. sym (a.aheads i (omega arith));
      times = λ i l. sym (a.times i (omega arith));
      places = λ i l. sym (a.places i (omega arith));
    }

still_fit : (s t : Standing) → AlikeStandings s t → Fit s → Fit t
still_fit s t a f =
    let e = a.playing in
    record {
      few = (let n = f.few in omega arith);
      times = λ i l. subst (λ (u : ℕ). u < worst_most) (a.times i (omega arith)) (f.times i (omega arith));
      aheads = λ i l. subst (λ (w : ℤ). mag w < 2 ^ 62) (a.aheads i (omega arith)) (f.aheads i (omega arith));
      below = λ i l. (let b = f.below i (omega arith) in let p = a.places i (omega arith) in omega arith);
      apart = λ i j l m h. f.apart i j (omega arith) (omega arith) (a.places i (omega arith) ∙ h ∙ sym (a.places j (omega arith)));
    }

-- Two statements that hold together are refused together.
unless_both : {p q : Type 0} (d : Dec p) (e : Dec q) (w : Refusal) → (p → q) → (q → p) → unless d w ≡ unless e w
unless_both (yes h) (yes k) w f g = refl
unless_both (yes h) (no k) w f g = absurd (k (f h))
unless_both (no h) (yes k) w f g = absurd (h (g k))
unless_both (no h) (no k) w f g = refl

module _ (s t : Standing) (a : AlikeStandings s t) where
  slack_alike : 0 < s.playing → standing_slack s ≡ standing_slack t
  slack_alike some =
      slack_same _ _ _ _ _ _ s.playing some a.places a.aheads a.times
      ∙ ap (slack_by (place_in t.places) (ahead_in t.aheads) (set_of t.times)) a.playing

  pub slack_in_same : slack_for s ≡ slack_for t
  unfolding slack_for
  slack_in_same =
      told_same timed (λ w c d. refl) _ _ _ _
      (first_same (fit_check s) (fit_check t)
      (unless_both (fit? s) (fit? t) refusal.Damaged (still_fit s t a) (still_fit t s (back s t a)))
      (λ e. ap (λ (n : ℕ). unless (dec_lt 0 n) refusal.NoSession) a.playing))
      (λ e. slack_alike (unless_within (dec_lt 0 s.playing) refusal.NoSession (first_right (fit_check s) (someone_check s) e)))
