-- The three demands, each sentence over what holds it, and that two results which satisfy one statement are equal. proofs/Demands.antt
-- proves all of it by citation.
use Rattle.std.specs.Prelude.{ℕ, ◌≡◌, Bool, List}
use Rattle.show.specs.declared.Show.{Show}
use Rattle.show.specs.Limits.{Tells}
use Rattle.parse.specs.Places.{PlaceIs}
use Rattle.showfile.specs.declared.Written.{Written}
use Rattle.showfile.specs.Rows.{words_of, bytes_of, Words}
use Rattle.verdict.specs.declared.Decision.{Decision}
use Rattle.trial.specs.declared.Trial.{Trial}
use Rattle.verdict.specs.Answers.{DecisionIs}
use Rattle.trial.specs.Answers.{TrialIs}
use Rattle.run.specs.declared.Opened.{Opened}
use Rattle.run.specs.Opening.{OpenIs}
use Rattle.reason.specs.Answers.{Reasoned, ReasonIs}
use Rattle.report.specs.Answers.{TextIs, ReportIs}
use Rattle.explain.specs.Answers.{SaidIs, ExplainIs}
use Rattle.chikchiro.specs.Answers.{Slices, ReportedIs, DecidedIs, ReasonedIs}
use Rattle.promises.specs.Numbers.{Table}
use Rattle.promises.specs.Files.{Trips}
use Rattle.promises.specs.Verdict.{Verdicts}
use Rattle.promises.specs.Lighter.{Lighter, LighterRuns}
use Rattle.promises.specs.Reports.{Reports}
use Rattle.promises.specs.Reasons.{Reasons}
use Rattle.promises.specs.Sayings.{Sayings}
use Rattle.promises.specs.Runs.{HandsBack, Runs}
use Rattle.promises.specs.Answered.{Answered}
use Rattle.promises.specs.Refusals.{Numbered, Only, Buffers, Empty}
use Rattle.promises.specs.Order.{Order}
use Rattle.promises.specs.Embedded.{Embedded}
use Rattle.promises.specs.SpareTime.{SpareTime}
use Rattle.promises.specs.Unseen.{Unseen}
use Rattle.promises.specs.RuledOut.{RuledOut}

-- Demand 1.
pub record First : Type 0 where
  -- Every file and every call gets an answer ..
  pub answered : Answered
  -- .. or a numbered refusal;
  pub numbered : Numbered
  pub only : Only
  -- (of the faults that are present, the first in the call's order)
  pub order : Order
  -- we check, the caller need not. (No public call has a `requires`: what stands here is of every file, every show and every run.)
  -- After a refusal the run ..
  pub runs : HandsBack
  -- .. and the caller's buffers are what they were.
  pub buffers : Buffers
  -- (Reading, deciding and opening are given no run: refused, they answer number and place, all else zero or empty.)
  pub empty : Empty
  -- (The same of the calls for C.)
  pub embedded : Embedded

-- Demand 2.
pub record Second : Type 0 where
  -- The verdict is the paper's definition made exact (strictly more than its own worst time, and fits the buffers);
  -- the counts are the smallest for every clip at once;
  pub verdicts : Verdicts
  -- files, clocks, spare time and next reads follow the written rules to the microsecond; (The rules are the definitions that the
  -- contracts name: read_of, note_of, written_of and buffer_of of a file, pass_of, take_of and finish_of of the clocks, choose_of of the next read.
  -- What is laid down of them: the laws of a run; that nothing looks at unused places; how spare time is rounded and ordered; the worked numbers;
  -- the calculator's lines.)
  pub runs : Runs
  pub unseen : Unseen
  pub spare : SpareTime
  pub table : Table
  pub reports : Reports
  -- (and with an 8 comes its reason, in a word and in a sentence)
  pub reasons : Reasons
  pub sayings : Sayings
  -- a show written and read again is the same show.
  pub trips : Trips

-- Demand 3.
pub record Third : Type 0 where
  -- Make an accepted show lighter and nothing gets worse: accepted again, no count, time, round or load larger, ..
  pub lighter : Lighter
  -- .. and where each session plays at the rate that it had or is not behind its cushion, no workahead and not the slack smaller.
  pub lighter_runs : LighterRuns

-- Two results that satisfy one statement are equal, for every public call.
pub record Once : Type 1 where
  -- The statement is an equation, of what is answered and of every byte or state that is lent: `Show::nothing`, `Show::check`,
  -- `Refusal::told`, `Cost::of_read`, `Cost::takes`, `worst_time`, `need`, `load`, `read`, `note`, `write`, `reread`, `copy`, `Run::with_cycle`, `test_run`,
  -- `pass`, `take`, `finish`, `choose`, `workahead`, `slack`, `start`, the player's `take_from`, `take` and `take_lent`; and, of texts, `find`,
  -- `parts`, `part`, `decimal`, `unhex`, `put_word`, `put_numbered`, `put_form`, `put_hex`.
  pub equation : {A : Type 0} (meaning x y : A) → x ≡ meaning → y ≡ meaning → x ≡ y
  -- It tells of a limit, of room, or of two texts: `Drive::within`, `Layout::within`, `Session::within`, `Show::counts_within`, `State::within`,
  -- `State::room`, `fits`, `same`.
  pub test : (p : Type 0) (a b : Bool) → Tells a p → Tells b p → a ≡ b
  -- `place_in`
  pub place : (names word : List ℕ) (a b : ℕ) → PlaceIs names word a → PlaceIs names word b → a ≡ b
  -- `Row::from_words`, `Row::words`, of a record in a show file
  pub from_words :
      {A : Type 0} (of : List ℕ → A) (w : List ℕ) (a b : A) → Words w → ((s : List ℕ) → w ≡ words_of s → a ≡ of s) →
      ((s : List ℕ) → w ≡ words_of s → b ≡ of s) → a ≡ b
  pub words : (v w : List ℕ) → Words v → Words w → bytes_of v ≡ bytes_of w → v ≡ w
  -- `decide`, `tried`, `open`, `why`
  pub decision : (s : Show) (d e : Decision) → DecisionIs s d → DecisionIs s e → d ≡ e
  pub trial : (s : Show) (m : List ℕ) (a b : Trial) → TrialIs s m a → TrialIs s m b → a ≡ b
  pub opening : (s : Show) (a b : Opened) → OpenIs s a → OpenIs s b → a ≡ b
  pub reason : (s : Show) (p q : Reasoned) → ReasonIs s p → ReasonIs s q → p ≡ q
  -- `report` and `explain`, in what they answer and in every byte; and the texts that they put
  pub report : (f b : List ℕ) (r s : Written) (x y : List ℕ) → ReportIs f b r x → ReportIs f b s y → (r ≡ s) × (x ≡ y)
  pub text : (f t u : List ℕ) → TextIs f t → TextIs f u → t ≡ u
  pub explain : (f b : List ℕ) (r s : Written) (x y : List ℕ) → ExplainIs f b r x → ExplainIs f b s y → (r ≡ s) × (x ≡ y)
  pub said : (f t u : List ℕ) → SaidIs f t → SaidIs f u → t ≡ u
  -- `chikchiro_report`, `chikchiro_decide`, `chikchiro_reason`, in what they answer and in every place of the slices
  pub reported : (f b : List ℕ) (m n : ℕ) (x y : List ℕ) → ReportedIs f b m x → ReportedIs f b n y → (m ≡ n) × (x ≡ y)
  pub decided : (f : List ℕ) (b : Slices) (m n : ℕ) (x y : Slices) → DecidedIs f b m x → DecidedIs f b n y → (m ≡ n) × (x ≡ y)
  pub reasoned : (f b : List ℕ) (m n : ℕ) (x y : List ℕ) → ReasonedIs f b m x → ReasonedIs f b n y → (m ≡ n) × (x ≡ y)

pub record Demands : Type 1 where
  pub first : First
  pub second : Second
  pub third : Third
  pub once : Once
  -- Of every public call a wrong answer that its contract rules out, in a situation that can occur. Another is an edit of the code, in must-fail.
  pub ruled_out : RuledOut
