-- Demand 1, that there is an answer. proofs/Answered.antt proves it.
use Rattle.std.specs.Prelude.{ℕ, ◌≡◌, List}
use Rattle.show.specs.declared.Layout.{Layout}
use Rattle.show.specs.declared.Session.{Session}
use Rattle.show.specs.declared.Show.{Show}
use Rattle.showfile.specs.File.{layout_of, layout_bytes, session_of, session_bytes}
use Rattle.showfile.specs.Rows.{words_of, bytes_of}
use Rattle.showfile.specs.declared.Written.{Written}
use Rattle.verdict.specs.declared.Decision.{Decision}
use Rattle.trial.specs.declared.Trial.{Trial}
use Rattle.verdict.specs.Answers.{DecisionIs}
use Rattle.trial.specs.Answers.{TrialIs}
use Rattle.run.specs.declared.Opened.{Opened}
use Rattle.run.specs.Opening.{OpenIs}
use Rattle.report.specs.Answers.{ReportIs}
use Rattle.reason.specs.Answers.{Reasoned, ReasonIs}
use Rattle.explain.specs.Answers.{ExplainIs}

-- Where the statement of a call is an equation, its right side is an answer, and what a test tells of is told (`drive?` and its like). Of the others:
pub record Answered : Type 0 where
  -- `Row::from_words` and `Row::words`, of a layout and of a session
  pub layout_from : (w : List ℕ) → (y : Layout) × ((s : List ℕ) → w ≡ words_of s → y ≡ layout_of s)
  pub session_from : (w : List ℕ) → (x : Session) × ((s : List ℕ) → w ≡ words_of s → x ≡ session_of s)
  pub layout_words : (y : Layout) → (w : List ℕ) × (layout_bytes y ≡ bytes_of w)
  pub session_words : (x : Session) → (w : List ℕ) × (session_bytes x ≡ bytes_of w)
  pub deciding : (s : Show) → (d : Decision) × DecisionIs s d
  pub trying : (s : Show) (m : List ℕ) → (t : Trial) × TrialIs s m t
  pub opening : (s : Show) → (o : Opened) × OpenIs s o
  pub why : (s : Show) → (r : Reasoned) × ReasonIs s r
  pub reporting : (f b : List ℕ) → (r : Written) × ((x : List ℕ) × ReportIs f b r x)
  pub explaining : (f b : List ℕ) → (r : Written) × ((x : List ℕ) × ExplainIs f b r x)
