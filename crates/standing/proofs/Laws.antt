-- A time that was told, and how it came about; refused, no standing. Assumes nothing.
use Rattle.std.specs.Prelude.{Ok, Err}
use Prim.Native.Nat.{◌<◌}
use mathlib.Core.Path.{◌≡◌, refl, ap}
use native.Mathlib.Decide.{dec_lt}
use lib.IntN.{ℤ}
use Rattle.show.specs.Outcomes.{Check}
use Rattle.show.specs.declared.refusal.Refusal.{Refusal}
use Rattle.show.specs.declared.refusal.Refusal.TheVariants as refusal
use Rattle.show.specs.Checks.{first}
use Rattle.show.proofs.Checks.{within_refused, unless_within, first_right}
use Rattle.run.specs.declared.Run.{Run}
use Rattle.run.specs.Decisions.{sound_check}
use Rattle.workahead.proofs.Laws.{time_told}
use Rattle.standing.specs.declared.Standing.{Standing}
use Rattle.standing.specs.declared.Stood.{Stood}
use Rattle.standing.specs.Standing.{no_standing, standing_of, standing_slack}
use Rattle.standing.specs.Answers.{stood_by, stood_of, fit_check, someone_check, slack_for}

pub slack_told : (s : Standing) (y : ℤ) → slack_for s ≡ Ok y → (0 < s.playing) × (y ≡ standing_slack s)
unfolding slack_for
slack_told s y e =
    let t = time_told (first (fit_check s) (someone_check s)) (standing_slack s) y e in
    (unless_within (dec_lt 0 s.playing) refusal.NoSession (first_right (fit_check s) (someone_check s) t.0), t.1)

pub stand_empty : (r : Run) (w : Refusal) → (stood_of r).check ≡ Err w → stood_of r ≡ record { check = Err w; standing = no_standing }
unfolding stood_of
stand_empty r w e = from (sound_check r) e
  where
    from : (k : Check) → (stood_by k (standing_of r)).check ≡ Err w → stood_by k (standing_of r) ≡ record { check = Err w; standing = no_standing }
    from (Ok tt) f = within_refused f
    from (Err v) f = (let none : Check → Stood = λ c. record { check = c; standing = no_standing } in ap none f)

pub stood_check : (r : Run) → (stood_of r).check ≡ sound_check r
unfolding stood_of
stood_check r = from (sound_check r)
  where
    from : (k : Check) → (stood_by k (standing_of r)).check ≡ k
    from (Ok tt) = refl
    from (Err w) = refl
