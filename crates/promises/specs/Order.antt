-- Demand 1, the order of refusals: of the faults that are present the first in a call's order is told, and no other. docs/RULES.md, section 4.
-- proofs/Order.antt proves it.
use Rattle.std.specs.Prelude.{ℕ, ◌-◌, ◌≤◌, ◌<◌, ◌≡◌, Bool, true, false, List, [], pos, ◌<ℤ◌, length, drop, Some, None, ℤ}
use Rattle.show.specs.declared.Session.{Session}
use Rattle.show.specs.declared.Show.{Show}
use Rattle.show.specs.Limits.{Between, CountsWithin, DriveWithin, LaidWithin, PlayingWithin}
use Rattle.show.specs.Faults.{Lowest}
use Rattle.show.specs.Outcomes.{Outcome, granted, check_outcome}
use Rattle.show.specs.Checks.{show_check}
use Rattle.cost.specs.declared.Cost.{Cost}
use Rattle.cost.specs.Bound.{Limited}
use Rattle.cost.specs.WorstTimes.{takes_of, worst_of, worst_outcome}
use Rattle.count.specs.Answers.{BlockWithin, RateWithin, need_of, asked_outcome}
use Rattle.theory.specs.Counts.{Accepted}
use Rattle.theory.specs.Shows.{load_of}
use Rattle.verdict.specs.declared.Decision.{Decision}
use Rattle.trial.specs.declared.Trial.{Trial}
use Rattle.verdict.specs.Answers.{DecisionIs, verdict_outcome}
use Rattle.trial.specs.Answers.{TrialIs, answer_outcome}
use Rattle.reason.specs.Answers.{Reasoned, ReasonIs, loaded_of, reason_outcome, loaded_outcome}
use Rattle.showfile.specs.declared.Written.{Written}
use Rattle.showfile.specs.declared.trailer.Trailer.{Trailer}
use Rattle.showfile.specs.File.{trailer_of, file_of}
use Rattle.showfile.specs.Checks.{file_least, file_most, note_most, note_length, Distanced}
use Rattle.showfile.specs.Answers.{read_of, shown_at}
use Rattle.showfile_write.specs.Answers.{written_of}
use Rattle.showfile_copy.specs.Trips.{reread_of, copied_of}
use Rattle.report.specs.Answers.{ReportIs, text_most}
use Rattle.explain.specs.Answers.{ExplainIs, said_most}
use Rattle.run.specs.declared.Opened.{Opened}
use Rattle.run.specs.Opening.{OpenIs}
use Rattle.state.specs.declared.State.{State}
use Rattle.run.specs.declared.Run.{Run}
use Rattle.run.specs.Run.{span_most, playing, state_at, seat_at, onward, RoomAt, PutAt}
use Rattle.state.specs.State.{StateSound}
use Rattle.run.specs.Sound.{SoundRun}
use Rattle.run_test.specs.Answers.{test_of, test_outcome}
use Rattle.player.specs.Answers.{drawn_of}
use Rattle.playback.specs.Answers.{pass_of, take_of, finish_of}
use Rattle.scheduler.specs.Answers.{choose_of, choice_outcome}
use Rattle.standing.specs.declared.Standing.{Standing}
use Rattle.standing.specs.Times.{slack_time}
use Rattle.standing.specs.Standing.{Fit}
use Rattle.workahead.specs.Decisions.{Countable}
use Rattle.workahead.specs.Answers.{ahead_for, spare_outcome}
use Rattle.standing.specs.Answers.{stood_of, slack_for}
use Rattle.spare.specs.Answers.{workahead_of, slack_of, start_of}

-- ---- orders

-- the refusal with this number, of this place
abbrev pub refused_with : ℕ → ℕ → Outcome
refused_with n place = record { number = n; place = place; values = [] }

-- Nothing is refused: number and place are 0.
abbrev pub Grants : Outcome → Type 0
Grants o = o ≡ granted o.values

infixr 1 ◌when◌else◌
-- Where the fault is present n is told, of place 0; where it is not, the rest says what is told. (19 when .. else 9 when .. else Grants)
pub record ◌when◌else◌ (n : ℕ) (fault : Type 0) (rest : Outcome → Type 0) (told : Outcome) : Type 0 where
  pub present : fault → told ≡ refused_with n 0
  pub absent : (fault → ⊥) → rest told

infixr 0 ◌tells◌
-- What is told follows the order.
abbrev pub ◌tells◌ : Outcome → (Outcome → Type 0) → Type 0
told tells order = order told

-- ---- shows

-- Limits of the places below `count`: where one is not kept n is told, of the lowest such place; where all are, the rest says what is told.
pub record Row (n : ℕ) (kept : ℕ → Type 0) (count : ℕ) (rest : Outcome → Type 0) (told : Outcome) : Type 0 where
  pub present : (i : ℕ) → i < count → (kept i → ⊥) → (k : ℕ) × (Lowest kept count k × (told ≡ refused_with n k))
  pub absent : ((i : ℕ) → i < count → kept i) → rest told

-- 5, 6, 7
abbrev pub LimitsThen : Show → (Outcome → Type 0) → Outcome → Type 0
LimitsThen s rest =
    5 when (DriveWithin s.drive → ⊥) else Row 6 (LaidWithin s) s.laid (Row 7 (PlayingWithin s) s.playing rest)

-- 2, 5, 6, 7
abbrev pub ShowThen : Show → (Outcome → Type 0) → Outcome → Type 0
ShowThen s rest = 2 when (CountsWithin s.laid s.playing → ⊥) else LimitsThen s rest

pub record OfShows : Type 0 where
  pub check : (s : Show) → check_outcome (show_check s) tells ShowThen s Grants
  pub takes :
      (c : Cost) (N n : ℕ) → worst_outcome (takes_of c N n) tells 5 when (Between 1 N 65536 → ⊥) else 6 when (Limited c → ⊥) else Grants
  pub need : (R A t : ℕ) → asked_outcome (need_of R A t) tells 5 when (BlockWithin A → ⊥) else 7 when (RateWithin R → ⊥) else Grants
  pub worst_time : (s : Show) (i n : ℕ) → worst_outcome (worst_of s i n) tells ShowThen s (9 when s.playing ≤ i else Grants)
  pub deciding :
      (s : Show) (d : Decision) → DecisionIs s d → verdict_outcome d.verdict tells ShowThen s (8 when (Accepted (load_of s) → ⊥) else Grants)
  pub trying : (s : Show) (m : List ℕ) (t : Trial) → TrialIs s m t → answer_outcome t.answer tells ShowThen s Grants
  pub why : (s : Show) (r : Reasoned) → ReasonIs s r → reason_outcome r tells ShowThen s Grants
  pub load : (s : Show) → loaded_outcome (loaded_of s) tells ShowThen s Grants
  pub opening : (s : Show) (o : Opened) → OpenIs s o → check_outcome o.check tells ShowThen s (8 when (Accepted (load_of s) → ⊥) else Grants)

-- ---- files

-- the trailer's first byte, and what the trailer, the file's last twenty bytes, says
abbrev pub trailer_at : List ℕ → ℕ
trailer_at f = length f - 20

abbrev pub trailer_in : List ℕ → Trailer
trailer_in f = trailer_of (drop (trailer_at f) f)

-- 1, 2, 3, 4, 5, 6, 7
abbrev pub FileThen : List ℕ → (Outcome → Type 0) → Outcome → Type 0
FileThen f rest =
    let at = trailer_at f in
    let t = trailer_in f in
    1 when (Between file_least (length f) file_most → ⊥) else 2 when (CountsWithin t.laid t.playing → ⊥) else 3 when (Distanced at t → ⊥) else
    4 when note_most < note_length at t else LimitsThen (shown_at f at t) rest

-- 2, 4, 5, 6, 7, 16
abbrev pub WriteOrder : Show → List ℕ → ℕ → Outcome → Type 0
WriteOrder x note room =
    2 when (CountsWithin x.laid x.playing → ⊥) else 4 when note_most < length note else
    LimitsThen x (16 when room < length (file_of x note) else Grants)

pub record OfFiles : Type 0 where
  pub reading : (f : List ℕ) → check_outcome (read_of f).check tells FileThen f Grants
  pub writing : (x : Show) (note : List ℕ) (room : ℕ) → check_outcome (written_of x note room).check tells WriteOrder x note room
  pub rereading : (x : Show) (note : List ℕ) (room : ℕ) → check_outcome (reread_of x note room).check tells WriteOrder x note room
  pub copying : (f : List ℕ) (room : ℕ) → check_outcome (copied_of f room).check tells FileThen f (16 when room < length f else Grants)
  -- whatever the file
  pub reporting :
      (f b : List ℕ) (r : Written) (x : List ℕ) → ReportIs f b r x → check_outcome r.check tells 16 when length b < text_most else Grants
  pub explaining :
      (f b : List ℕ) (r : Written) (x : List ℕ) → ExplainIs f b r x → check_outcome r.check tells 16 when length b < said_most else Grants

-- ---- runs

-- 19: a damaged run record
abbrev pub Damaged : Run → Type 0
Damaged r = SoundRun r → ⊥

-- 10: a take of more than there is, P - G
abbrev pub TooMuch : State → ℕ → Type 0
TooMuch s n = s.put - s.taken < n

-- 11: a time over 1,000,000,000 µs
abbrev pub TooLong : ℕ → Type 0
TooLong d = span_most < d

-- 13: a read under way
abbrev pub Reading : Run → Type 0
Reading r = (i : ℕ) × (r.underway ≡ Some i)

-- Choose comes to the session k places on: it has room, and those before it have none.
pub record ComesTo (r : Run) (k : ℕ) : Type 0 where
  pub inside : k < playing r
  pub room : RoomAt r (seat_at r (onward r k))
  pub before : (j : ℕ) → j < k → RoomAt r (seat_at r (onward r j)) → ⊥

-- 14: the session that choose comes to would pass the limit on the bytes put
abbrev pub PastLimit : Run → Type 0
PastLimit r = (k : ℕ) × (ComesTo r k × (PutAt r (seat_at r (onward r k)) → ⊥))

pub record OfRuns : Type 0 where
  pub test_run : (r : Run) → test_outcome (test_of r) tells 19 when Damaged r else Grants
  pub pass : (r : Run) (d : ℕ) → check_outcome (pass_of r d).check tells 19 when Damaged r else 11 when TooLong d else Grants
  pub take :
      (r : Run) (i n : ℕ) → check_outcome (take_of r i n).check tells
      19 when Damaged r else 9 when playing r ≤ i else 12 when r.started ≡ false else 10 when TooMuch (state_at r i) n else Grants
  pub player :
      (s : State) (x : Session) (b : Bool) (n : ℕ) → check_outcome (drawn_of s x b n).check tells
      19 when (StateSound b x s → ⊥) else 12 when b ≡ false else 10 when TooMuch s n else Grants
  pub finish :
      (r : Run) (d : ℕ) → check_outcome (finish_of r d).check tells
      19 when Damaged r else 11 when TooLong d else 17 when r.underway ≡ None else Grants
  pub choose : (r : Run) → choice_outcome (choose_of r).choice tells 19 when Damaged r else 13 when Reading r else 14 when PastLimit r else Grants
  pub ahead_of : (x : Session) (s : State) → spare_outcome (ahead_for x s) tells 7 when x.rate ≡ 0 else 19 when (Countable s → ⊥) else Grants
  pub stand : (r : Run) → check_outcome (stood_of r).check tells 19 when Damaged r else Grants
  pub slack_in : (s : Standing) → spare_outcome (slack_for s) tells 19 when (Fit s → ⊥) else 9 when s.playing ≡ 0 else Grants
  pub workahead : (r : Run) (i : ℕ) → spare_outcome (workahead_of r i).spare tells 19 when Damaged r else 9 when playing r ≤ i else Grants
  pub slack : (r : Run) → spare_outcome (slack_of r).spare tells 19 when Damaged r else 9 when playing r ≡ 0 else Grants
  pub start :
      (r : Run) → check_outcome (start_of r).check tells
      19 when Damaged r else 18 when r.started ≡ true else 13 when Reading r else 9 when playing r ≡ 0 else 15 when slack_time r <ℤ pos 0 else Grants

-- ---- every call

pub record Order : Type 0 where
  pub shows : OfShows
  pub files : OfFiles
  pub runs : OfRuns
