-- What choose answers: docs/RULES.md, section 9.
use Rattle.std.specs.Prelude.{ℕ, [], ◌∷◌, pos, Ok, Err}
use Rattle.std.proofs.Math.Logic.{ite}
use Rattle.std.proofs.Math.Decide.{dec_lt, ℕ_discrete}
use Rattle.show.specs.Outcomes.{Check}
use Rattle.show.specs.declared.refusal.Refusal.TheVariants as refusal
use Rattle.show.specs.Checks.{first}
use Rattle.show.specs.Outcomes.{Outcome, granted, refused_by}
use Rattle.run.specs.declared.Run.{Run}
use Rattle.run.specs.Run.{playing, seat_at, onward}
use Rattle.run.specs.Decisions.{put?, sound_check}
use Rattle.run.specs.Answers.{free_check}
use Rattle.run.specs.Steps.{skipped, idled, left_past, begun}
use Rattle.scheduler.specs.declared.Choice.{Choice}
use Rattle.scheduler.specs.declared.Choice.TheVariants as choice
use Rattle.scheduler.specs.declared.Chosen.{Chosen}

abbrev pub chosen : Choice → Run → Chosen
chosen c r = record { choice = c; run = r }

-- the read of the session at a place, with so many left: 14, with the run as it was, if one more block would pass the limit on P
unfoldable pub arrived : Run → ℕ → ℕ → Chosen
arrived r place left =
    ite (put? r (seat_at r place)) (chosen (choice.Read (seat_at r place)) (begun r place left))
    (chosen (choice.Refused refusal.PutLimit) r)

-- .. where the first k are skipped
abbrev pub arrived_past : Run → ℕ → Chosen
arrived_past r k = arrived r (onward r k) (left_past r k)

-- Idle if everyone is skipped; an empty show is Idle, and stays as it is.
unfoldable pub next_of : Run → Chosen
next_of r =
    ite (ℕ_discrete (playing r) 0) (chosen choice.Idle r)
    (ite (dec_lt (skipped r) (playing r)) (arrived_past r (skipped r)) (chosen choice.Idle (idled r)))

-- 19, 13
unfoldable pub choose_check : Run → Check
choose_check r = first (sound_check r) (free_check r.underway)

abbrev pub chosen_by : Check → Run → Chosen
chosen_by (Ok tt) r = next_of r
chosen_by (Err w) r = chosen (choice.Refused w) r

unfoldable pub choose_of : Run → Chosen
choose_of r = chosen_by (choose_check r) r

-- the session to read, none where it is Idle, or the refusal
abbrev pub choice_outcome : Choice → Outcome
choice_outcome choice.Idle = granted []
choice_outcome (choice.Read i) = granted (pos i ∷ [])
choice_outcome (choice.Refused w) = refused_by w
