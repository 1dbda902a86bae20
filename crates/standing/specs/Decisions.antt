-- Whether a standing can be worked with is told: yes with the proof, or no with the proof that it cannot. The types say all.
use Rattle.std.specs.Prelude.{◌^◌}
use Rattle.std.proofs.Math.Logic.Dec
use Rattle.std.proofs.Math.Decide.{dec_le, dec_lt, ℕ_discrete}
use Rattle.std.specs.Int.Signed.{mag}
use Rattle.show.specs.Decisions.{decided}
use Rattle.cost.specs.Bound.{worst_most}
use Rattle.verdict.specs.Answers.{set_of}
use Rattle.state.specs.Decisions.{when?}
use Rattle.run.specs.Decisions.{below?}
use Rattle.standing.specs.declared.Standing.{Standing}
use Rattle.order.specs.Order.{ahead_in, place_in}
use Rattle.standing.specs.Standing.{Fit}

unfoldable pub fit? : (s : Standing) → Dec (Fit s)
fit? s =
    decided (λ h. record { few = h.0; times = h.1.0; aheads = h.1.1.0; below = h.1.1.1.0; apart = λ i j l m. h.1.1.1.1 i l j m })
    (λ f. (f.few, (f.times, (f.aheads, (f.below, λ i l j m. f.apart i j l m)))))
    (Dec.and (dec_le s.playing 16)
    (Dec.and (below? (λ i. dec_lt (set_of s.times i) worst_most) s.playing)
    (Dec.and (below? (λ i. dec_lt (mag (ahead_in s.aheads i)) (2 ^ 62)) s.playing)
    (Dec.and (below? (λ i. dec_lt (place_in s.places i) s.playing) s.playing)
    (below? (λ i. below? (λ j. when? (ℕ_discrete (place_in s.places i) (place_in s.places j)) (ℕ_discrete i j)) s.playing) s.playing)))))
