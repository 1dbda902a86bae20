-- What each call answers: docs/RULES.md, section 10.
use Rattle.std.specs.Prelude.{Ok, Err, Result, ℤ}
use Rattle.std.proofs.Math.Decide.{dec_lt}
use Rattle.show.specs.Outcomes.{Check}
use Rattle.show.specs.declared.refusal.Refusal.{Refusal}
use Rattle.show.specs.declared.refusal.Refusal.TheVariants as refusal
use Rattle.show.specs.Checks.{unless, first}
use Rattle.run.specs.declared.Run.{Run}
use Rattle.run.specs.Decisions.{sound_check}
use Rattle.workahead.specs.Answers.{timed}
use Rattle.standing.specs.declared.Standing.{Standing}
use Rattle.standing.specs.declared.Stood.{Stood}
use Rattle.standing.specs.Standing.{no_standing, standing_of, standing_slack}
use Rattle.standing.specs.Decisions.{fit?}

-- Refused: no standing.
abbrev pub stood_by : Check → Standing → Stood
stood_by (Ok tt) s = record { check = Ok tt; standing = s }
stood_by (Err w) s = record { check = Err w; standing = no_standing }

-- 19
unfoldable pub stood_of : Run → Stood
stood_of r = stood_by (sound_check r) (standing_of r)

-- 19: a standing of no run
abbrev pub fit_check : Standing → Check
fit_check s = unless (fit? s) refusal.Damaged

-- 9: nobody plays
abbrev pub someone_check : Standing → Check
someone_check s = unless (dec_lt 0 s.playing) refusal.NoSession

-- 19, 9
unfoldable pub slack_for : Standing → Result ℤ Refusal
slack_for s = timed (first (fit_check s) (someone_check s)) (standing_slack s)
