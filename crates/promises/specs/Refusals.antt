-- Demand 1, what is said no with and what is left after it: docs/RULES.md, section 4. proofs/Refusals.antt proves it.
use Rattle.std.specs.Prelude.{ℕ, ◌+◌, ◌<◌, ◌≡◌, Bool, List, [], ◌∷◌, ◌⊎◌, length, Err}
use Rattle.show.specs.declared.Session.{Session}
use Rattle.show.specs.declared.Show.{Show}
use Rattle.show.specs.declared.refusal.Refusal.{Refusal}
use Rattle.show.specs.Limits.{Between, no_show}
use Rattle.show.specs.Refusals.{number_of, place_of, told_of, number_most}
use Rattle.show.specs.Checks.{show_check}
use Rattle.show.specs.Outcomes.{Outcome, check_outcome}
use Rattle.cost.specs.declared.Cost.{Cost}
use Rattle.cost.specs.WorstTimes.{takes_of, worst_of, worst_outcome}
use Rattle.count.specs.Answers.{need_of, asked_outcome}
use Rattle.showfile.specs.declared.Written.{Written}
use Rattle.showfile.specs.Answers.{read_of, note_of}
use Rattle.showfile_write.specs.Answers.{written_of, buffer_of}
use Rattle.showfile_copy.specs.Trips.{reread_of, copied_of, copy_of}
use Rattle.text.specs.Puts.{put_over, put_to}
use Rattle.report.specs.Answers.{ReportIs}
use Rattle.explain.specs.Answers.{ExplainIs}
use Rattle.reason.specs.declared.Reason.TheVariants as reason
use Rattle.reason.specs.Answers.{Reasoned, ReasonIs, loaded_of, reason_outcome, loaded_outcome}
use Rattle.verdict.specs.declared.Decision.{Decision}
use Rattle.trial.specs.declared.Trial.{Trial}
use Rattle.verdict.specs.Answers.{DecisionIs, refused_for, verdict_outcome}
use Rattle.trial.specs.Answers.{TrialIs, untried_for, answer_outcome}
use Rattle.state.specs.declared.State.{State}
use Rattle.run.specs.declared.Run.{Run}
use Rattle.run.specs.declared.Opened.{Opened}
use Rattle.run.specs.Opening.{OpenIs, no_run}
use Rattle.run_test.specs.Answers.{test_outcome}
use Rattle.player.specs.Answers.{drawn_of}
use Rattle.playback.specs.Answers.{pass_of, take_of, finish_of}
use Rattle.scheduler.specs.declared.Choice.TheVariants as choice
use Rattle.scheduler.specs.Answers.{choose_of, choice_outcome}
use Rattle.standing.specs.declared.Standing.{Standing}
use Rattle.standing.specs.Standing.{no_standing}
use Rattle.workahead.specs.Answers.{ahead_for, spare_outcome}
use Rattle.standing.specs.Answers.{stood_of, slack_for}
use Rattle.spare.specs.Answers.{workahead_of, slack_of, start_of}

-- one of these numbers
abbrev pub OneOf : List ℕ → ℕ → Type 0
OneOf [] n = ⊥
OneOf (k ∷ l) n = (n ≡ k) ⊎ OneOf l n

-- An answer that, where it is a refusal, has one of these numbers.
abbrev pub Says : {A : Type 0} → (Refusal → A) → A → List ℕ → Type 0
Says refused answer numbers = (w : Refusal) → answer ≡ refused w → OneOf numbers (number_of w)

-- An answer is known by its number, its place and its values.
abbrev pub KnownBy : {A : Type 0} → (A → Outcome) → Type 0
KnownBy {A} outcome = (a b : A) → outcome a ≡ outcome b → a ≡ b

pub record Known : Type 0 where
  pub check : KnownBy check_outcome
  pub worst : KnownBy worst_outcome
  pub asked : KnownBy asked_outcome
  pub verdict : KnownBy verdict_outcome
  pub answer : KnownBy answer_outcome
  pub reason : KnownBy reason_outcome
  pub loaded : KnownBy loaded_outcome
  pub test : KnownBy test_outcome
  pub choice : KnownBy choice_outcome
  pub spare : KnownBy spare_outcome

pub record Numbered : Type 0 where
  -- Every refusal has a number from 1 to the last, 19, and by its number and place it is known.
  pub number : (w : Refusal) → Between 1 (number_of w) number_most
  pub known : (v w : Refusal) → told_of v ≡ told_of w → v ≡ w
  -- The place is 0 but for 6 and 7.
  pub place : (w : Refusal) → OneOf (6 ∷ 7 ∷ []) (number_of w) ⊎ (place_of w ≡ 0)
  pub answers : Known

-- No call says another number than these. Which of them, and when: record Order (specs/Order).
pub record Only : Type 0 where
  pub check : (s : Show) → Says Err (show_check s) (2 ∷ 5 ∷ 6 ∷ 7 ∷ [])
  pub takes : (c : Cost) (N n : ℕ) → Says Err (takes_of c N n) (5 ∷ 6 ∷ [])
  pub need : (R A t : ℕ) → Says Err (need_of R A t) (5 ∷ 7 ∷ [])
  pub worst_time : (s : Show) (i n : ℕ) → Says Err (worst_of s i n) (2 ∷ 5 ∷ 6 ∷ 7 ∷ 9 ∷ [])
  pub reading : (f : List ℕ) → Says Err (read_of f).check (1 ∷ 2 ∷ 3 ∷ 4 ∷ 5 ∷ 6 ∷ 7 ∷ [])
  pub writing : (x : Show) (note : List ℕ) (room : ℕ) → Says Err (written_of x note room).check (2 ∷ 4 ∷ 5 ∷ 6 ∷ 7 ∷ 16 ∷ [])
  pub rereading : (x : Show) (note : List ℕ) (room : ℕ) → Says Err (reread_of x note room).check (2 ∷ 4 ∷ 5 ∷ 6 ∷ 7 ∷ 16 ∷ [])
  pub copying : (f : List ℕ) (room : ℕ) → Says Err (copied_of f room).check (1 ∷ 2 ∷ 3 ∷ 4 ∷ 5 ∷ 6 ∷ 7 ∷ 16 ∷ [])
  pub reporting : (f b : List ℕ) (r : Written) (x : List ℕ) → ReportIs f b r x → Says Err r.check (16 ∷ [])
  pub explaining : (f b : List ℕ) (r : Written) (x : List ℕ) → ExplainIs f b r x → Says Err r.check (16 ∷ [])
  pub deciding : (s : Show) (d : Decision) → DecisionIs s d → Says Err d.verdict (2 ∷ 5 ∷ 6 ∷ 7 ∷ 8 ∷ [])
  pub why : (s : Show) (r : Reasoned) → ReasonIs s r → Says Err r (2 ∷ 5 ∷ 6 ∷ 7 ∷ [])
  pub load : (s : Show) → Says Err (loaded_of s) (2 ∷ 5 ∷ 6 ∷ 7 ∷ [])
  pub trying : (s : Show) (m : List ℕ) (t : Trial) → TrialIs s m t → Says Err t.answer (2 ∷ 5 ∷ 6 ∷ 7 ∷ [])
  pub opening : (s : Show) (o : Opened) → OpenIs s o → Says Err o.check (2 ∷ 5 ∷ 6 ∷ 7 ∷ 8 ∷ [])
  pub pass : (r : Run) (d : ℕ) → Says Err (pass_of r d).check (19 ∷ 11 ∷ [])
  pub take : (r : Run) (i n : ℕ) → Says Err (take_of r i n).check (19 ∷ 9 ∷ 12 ∷ 10 ∷ [])
  pub player : (s : State) (x : Session) (b : Bool) (n : ℕ) → Says Err (drawn_of s x b n).check (19 ∷ 12 ∷ 10 ∷ [])
  pub finish : (r : Run) (d : ℕ) → Says Err (finish_of r d).check (19 ∷ 11 ∷ 17 ∷ [])
  pub choose : (r : Run) → Says choice.Refused (choose_of r).choice (19 ∷ 13 ∷ 14 ∷ [])
  pub ahead_of : (x : Session) (s : State) → Says Err (ahead_for x s) (7 ∷ 19 ∷ [])
  pub stand : (r : Run) → Says Err (stood_of r).check (19 ∷ [])
  pub slack_in : (s : Standing) → Says Err (slack_for s) (19 ∷ 9 ∷ [])
  pub workahead : (r : Run) (i : ℕ) → Says Err (workahead_of r i).spare (19 ∷ 9 ∷ [])
  pub slack : (r : Run) → Says Err (slack_of r).spare (19 ∷ 9 ∷ [])
  pub start : (r : Run) → Says Err (start_of r).check (19 ∷ 18 ∷ 13 ∷ 9 ∷ 15 ∷ [])

-- Refused, every byte of a lent buffer is what it was.
pub record Buffers : Type 0 where
  pub writing : (x : Show) (note b : List ℕ) (w : Refusal) → (written_of x note (length b)).check ≡ Err w → buffer_of x note b ≡ b
  pub rereading : (x : Show) (note b : List ℕ) (w : Refusal) → (reread_of x note (length b)).check ≡ Err w → buffer_of x note b ≡ b
  pub copying : (f b : List ℕ) (w : Refusal) → (copied_of f (length b)).check ≡ Err w → copy_of f b ≡ b
  pub reporting : (f b : List ℕ) (r : Written) (x : List ℕ) → ReportIs f b r x → (w : Refusal) → r.check ≡ Err w → x ≡ b
  pub explaining : (f b : List ℕ) (r : Written) (x : List ℕ) → ExplainIs f b r x → (w : Refusal) → r.check ≡ Err w → x ≡ b
  -- a text that does not fit is not put, and the place that was given is answered
  pub putting : (b : List ℕ) (at : ℕ) (t : List ℕ) → length b < at + length t → (put_over b at t ≡ b) × (put_to b at t ≡ at)

-- Refused, all beside number and place is zero or empty; a writer has written no byte.
pub record Empty : Type 0 where
  pub reading : (f : List ℕ) (w : Refusal) → (read_of f).check ≡ Err w → read_of f ≡ record { check = Err w; show = no_show; note = 0 }
  pub note : (f : List ℕ) (w : Refusal) → (read_of f).check ≡ Err w → note_of f ≡ []
  pub writing : (x : Show) (note : List ℕ) (room : ℕ) (w : Refusal) → (written_of x note room).check ≡ Err w → (written_of x note room).len ≡ 0
  pub rereading :
      (x : Show) (note : List ℕ) (room : ℕ) (w : Refusal) → (reread_of x note room).check ≡ Err w →
      reread_of x note room ≡ record { check = Err w; show = no_show; note = 0 }
  pub copying : (f : List ℕ) (room : ℕ) (w : Refusal) → (copied_of f room).check ≡ Err w → (copied_of f room).len ≡ 0
  pub reporting : (f b : List ℕ) (r : Written) (x : List ℕ) → ReportIs f b r x → (w : Refusal) → r.check ≡ Err w → r.len ≡ 0
  pub explaining : (f b : List ℕ) (r : Written) (x : List ℕ) → ExplainIs f b r x → (w : Refusal) → r.check ≡ Err w → r.len ≡ 0
  pub deciding : (s : Show) (d : Decision) → DecisionIs s d → (w : Refusal) → d.verdict ≡ Err w → d ≡ refused_for w
  pub trying : (s : Show) (m : List ℕ) (t : Trial) → TrialIs s m t → (w : Refusal) → t.answer ≡ Err w → t ≡ untried_for w
  pub opening : (s : Show) (o : Opened) → OpenIs s o → (w : Refusal) → o.check ≡ Err w → o ≡ record { check = Err w; run = no_run }
  pub stand : (r : Run) (w : Refusal) → (stood_of r).check ≡ Err w → stood_of r ≡ record { check = Err w; standing = no_standing }
