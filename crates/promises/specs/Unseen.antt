-- Nothing looks at the unused places of a show, nor of a run: docs/RULES.md, sections 1 and 9. proofs/Unseen.antt proves it. That deciding a show,
-- trying counts, the reason for a no and the load do not stands beside what they promise: specs/Verdict and specs/Reasons.
use Rattle.std.specs.Prelude.{ℕ, ◌<◌, ◌≡◌, List}
use Rattle.show.specs.declared.Show.{Show}
use Rattle.show.specs.Limits.{Alike}
use Rattle.show.specs.Checks.{show_check}
use Rattle.cost.specs.WorstTimes.{worst_of}
use Rattle.verdict.specs.Answers.{set_of}
use Rattle.showfile_write.specs.Answers.{written_of, buffer_of}
use Rattle.showfile_copy.specs.Trips.{reread_of}
use Rattle.run.specs.declared.Run.{Run}
use Rattle.run.specs.declared.Moved.{Moved}
use Rattle.run.specs.declared.Opened.{Opened}
use Rattle.run.specs.Run.{playing, state_at, count_at, seat_at}
use Rattle.run.specs.Sound.{SoundRun}
use Rattle.run.specs.Opening.{OpenIs}
use Rattle.playback.specs.Answers.{pass_of, take_of, finish_of}
use Rattle.scheduler.specs.declared.Chosen.{Chosen}
use Rattle.scheduler.specs.Answers.{choose_of}
use Rattle.standing.specs.declared.Standing.{Standing}
use Rattle.order.specs.Order.{ahead_in, place_in}
use Rattle.standing.specs.Answers.{stood_of, slack_for}
use Rattle.spare.specs.declared.Spared.{Spared}
use Rattle.spare.specs.Answers.{workahead_of, slack_of, start_of}
use Rattle.promises.specs.Runs.{Sized}

-- Two runs that differ in unused places alone.
pub record AlikeRuns (r q : Run) : Type 0 where
  pub show : Alike r.show q.show
  pub counts : (i : ℕ) → i < playing r → count_at r i ≡ count_at q i
  pub states : (i : ℕ) → i < playing r → state_at r i ≡ state_at q i
  pub order : (k : ℕ) → k < playing r → seat_at r k ≡ seat_at q k
  pub place : r.place ≡ q.place
  pub left : r.left ≡ q.left
  pub underway : r.underway ≡ q.underway
  pub started : r.started ≡ q.started

-- Two standings that differ in unused places alone.
pub record AlikeStandings (s t : Standing) : Type 0 where
  pub playing : s.playing ≡ t.playing
  pub aheads : (i : ℕ) → i < s.playing → ahead_in s.aheads i ≡ ahead_in t.aheads i
  pub times : (i : ℕ) → i < s.playing → set_of s.times i ≡ set_of t.times i
  pub places : (i : ℕ) → i < s.playing → place_in s.places i ≡ place_in t.places i

-- Two answers that are the same, with runs that again differ in unused places alone.
abbrev pub SameMoved : Moved → Moved → Type 0
SameMoved a b = (a.check ≡ b.check) × AlikeRuns a.run b.run

abbrev pub SameChosen : Chosen → Chosen → Type 0
SameChosen a b = (a.choice ≡ b.choice) × AlikeRuns a.run b.run

abbrev pub SameSpared : Spared → Spared → Type 0
SameSpared a b = (a.spare ≡ b.spare) × AlikeRuns a.run b.run

abbrev pub SameOpened : Opened → Opened → Type 0
SameOpened a b = (a.check ≡ b.check) × AlikeRuns a.run b.run

-- Places above a count are not looked at.
pub record Unseen : Type 0 where
  -- Nothing looks at unused places of a show: tested, timed, written or read again, two that differ there alone give the same, byte for byte.
  pub check : (s t : Show) → Alike s t → show_check s ≡ show_check t
  pub worst_time : (s t : Show) (i n : ℕ) → Alike s t → worst_of s i n ≡ worst_of t i n
  pub writing : (s t : Show) (note : List ℕ) (room : ℕ) → Alike s t → written_of s note room ≡ written_of t note room
  pub buffer : (s t : Show) (note b : List ℕ) → Alike s t → buffer_of s note b ≡ buffer_of t note b
  pub rereading : (s t : Show) (note : List ℕ) (room : ℕ) → Alike s t → reread_of s note room ≡ reread_of t note room
  -- Runs that are alike are so both ways, and a run is sound or damaged whatever stands in unused places.
  pub back : (r q : Run) → AlikeRuns r q → AlikeRuns q r
  pub sound : (r q : Run) → AlikeRuns r q → SoundRun r → SoundRun q
  -- Every call gives the same answer, granted or refused, and leaves runs that again differ there alone.
  pub pass : (r q : Run) (d : ℕ) → Sized r → Sized q → AlikeRuns r q → SameMoved (pass_of r d) (pass_of q d)
  pub take : (r q : Run) (i n : ℕ) → Sized r → Sized q → AlikeRuns r q → SameMoved (take_of r i n) (take_of q i n)
  pub choose : (r q : Run) → AlikeRuns r q → SameChosen (choose_of r) (choose_of q)
  pub finish : (r q : Run) (d : ℕ) → Sized r → Sized q → AlikeRuns r q → SameMoved (finish_of r d) (finish_of q d)
  pub stand : (r q : Run) → AlikeRuns r q → stood_of r ≡ stood_of q
  pub slack_in : (s t : Standing) → AlikeStandings s t → slack_for s ≡ slack_for t
  pub workahead : (r q : Run) (i : ℕ) → AlikeRuns r q → SameSpared (workahead_of r i) (workahead_of q i)
  pub slack : (r q : Run) → AlikeRuns r q → SameSpared (slack_of r) (slack_of q)
  pub start : (r q : Run) → Sized r → Sized q → AlikeRuns r q → SameMoved (start_of r) (start_of q)
  -- So does opening, of two shows that differ in unused places alone.
  pub opening : (s t : Show) (o p : Opened) → Alike s t → OpenIs s o → OpenIs t p → SameOpened o p
