-- What is left after a refusal. Assumes nothing.
use Rattle.std.specs.Prelude.{Ok, Err}
use Prim.Native.Nat.{ℕ, ◌-◌}
use mathlib.Core.Path.{◌≡◌, refl, sym, ap, ◌∙◌}
use mathlib.Core.List.{List}
use native.Mathlib.Omega.{arith}
use lib.ListN.{length, take, drop}
use Rattle.show.specs.Outcomes.{Check}
use Rattle.show.specs.declared.Show.{Show}
use Rattle.show.specs.declared.refusal.Refusal.{Refusal}
use Rattle.show.specs.Limits.{no_show}
use Rattle.show.proofs.Checks.{within_refused}
use Rattle.showfile.specs.declared.Reading.{Reading}
use Rattle.showfile.specs.declared.Written.{Written}
use Rattle.showfile.specs.File.{trailer_of, file_of, zeroed}
use Rattle.showfile.specs.Checks.{note_length}
use Rattle.showfile.specs.Answers.{reading, read_check, read_at, read_of, shown_at, written, written_over}
use Rattle.showfile_write.specs.Answers.{write_check, written_of, buffer_of}
use Rattle.showfile_copy.specs.Trips.{reread_of, copy_check, copied_of, copy_of}
use Rattle.text.specs.Told.{ToldIs, told, short}
use Rattle.text.proofs.Puts.{no_room}
use Rattle.report.specs.Answers.{TextIs, text_most}
use Rattle.explain.specs.Answers.{SaidIs, said_most}
use Rattle.verdict.specs.declared.Decision.{Decision}
use Rattle.trial.specs.declared.Trial.{Trial}
use Rattle.verdict.specs.Answers.{DecisionIs, accepted, no_set, outside, refused_for}
use Rattle.trial.specs.Answers.{TrialIs, holds, fails, untried, untried_for}
use Rattle.verdict.proofs.Decisions.{accepted_refused}
use Rattle.showfile_copy.proofs.Trip.{written_check}
use Rattle.run.specs.declared.Opened.{Opened}
use Rattle.run.specs.Opening.{OpenIs, opened_by, no_run}
use Rattle.standing.proofs.Laws.{stand_empty}
use Rattle.promises.specs.Refusals.{Buffers, Empty}
use Rattle.promises.proofs.Says.{same_refusal, granted_refused, opened_refused}

-- ---- buffers

over_refused : (k : Check) (file b : List ℕ) (w : Refusal) → k ≡ Err w → written_over k file b ≡ b
over_refused (Ok tt) file b w e = within_refused e
over_refused (Err v) file b w e = refl

pub reading_check : (k : Check) (x : Show) (n : ℕ) → (reading k x n).check ≡ k
reading_check (Ok tt) x n = refl
reading_check (Err v) x n = refl

told_back :
    (is : List ℕ → Type 0) (most : ℕ) (b : List ℕ) (r : Written) (x : List ℕ) → ToldIs is most b r x → (w : Refusal) →
    r.check ≡ Err w → x ≡ b
told_back is most b r x (told t h g) w e = within_refused e
told_back is most b r x (short h) w e = refl

pub buffers : Buffers
unfolding written_of buffer_of reread_of copied_of copy_of
buffers =
    record {
      writing = λ x note b w e.
          (let k = write_check x note (length b) in
          over_refused k (file_of x note) b w (sym (written_check k (length (file_of x note))) ∙ e));
      rereading = λ x note b w e.
          (let k = write_check x note (length b) in
          over_refused k (file_of x note) b w (sym (reading_check k (zeroed x) (length note)) ∙ e));
      copying = λ f b w e.
          (let k = copy_check f (length b) in
          over_refused k f b w (sym (written_check k (length f)) ∙ e));
      reporting = λ f. told_back (TextIs f) text_most;
      explaining = λ f. told_back (SaidIs f) said_most;
      putting = λ b at t h. (let n = no_room b at t (λ l. omega arith) in (sym n.0, sym n.1));
    }

-- ---- answers

reading_empty : (k : Check) (x : Show) (n : ℕ) (w : Refusal) → (reading k x n).check ≡ Err w → reading k x n ≡ reading (Err w) no_show 0
reading_empty (Ok tt) x n w e = within_refused e
reading_empty (Err v) x n w e = ap (λ (k : Check). record { check = k; show = no_show; note = 0 }) e

read_empty : (f : List ℕ) (w : Refusal) → (read_of f).check ≡ Err w → read_of f ≡ reading (Err w) no_show 0
unfolding read_of read_at
read_empty f w e =
    let at = length f - 20 in
    let t = trailer_of (drop at f) in
    reading_empty (read_check f at t) (shown_at f at t) (note_length at t) w e

written_empty : (k : Check) (n : ℕ) (w : Refusal) → (written k n).check ≡ Err w → (written k n).len ≡ 0
written_empty (Ok tt) n w e = within_refused e
written_empty (Err v) n w e = refl

told_empty :
    (is : List ℕ → Type 0) (most : ℕ) (b : List ℕ) (r : Written) (x : List ℕ) → ToldIs is most b r x → (w : Refusal) →
    r.check ≡ Err w → r.len ≡ 0
told_empty is most b r x (told t h g) w e = within_refused e
told_empty is most b r x (short h) w e = refl

decide_empty : (s : Show) (d : Decision) → DecisionIs s d → (w : Refusal) → d.verdict ≡ Err w → d ≡ refused_for w
decide_empty s d (accepted m h g) w e = accepted_refused (sym e)
decide_empty s d (no_set h none) w e = ap refused_for (same_refusal e)
decide_empty s d (outside v out) w e = ap refused_for (same_refusal e)

tried_empty : (s : Show) (m : List ℕ) (t : Trial) → TrialIs s m t → (w : Refusal) → t.answer ≡ Err w → t ≡ untried_for w
tried_empty s m t (holds h g) w e = granted_refused e
tried_empty s m t (fails h g) w e = granted_refused e
tried_empty s m t (untried v out) w e = ap untried_for (same_refusal e)

open_empty : (s : Show) (o : Opened) → OpenIs s o → (w : Refusal) → o.check ≡ Err w → o ≡ record { check = Err w; run = no_run }
open_empty s o h w e =
    let d = h.decision in
    h.answers ∙ ap (opened_by s d.counts) (opened_refused s d.counts d.verdict w (sym (ap (λ (x : Opened). x.check) h.answers) ∙ e))

pub empty : Empty
unfolding written_of reread_of copied_of
empty =
    record {
      reading = read_empty;
      note = λ f w e. ap (λ (r : Reading). take r.note f) (read_empty f w e);
      writing = λ x note room. written_empty (write_check x note room) (length (file_of x note));
      rereading = λ x note room. reading_empty (write_check x note room) (zeroed x) (length note);
      copying = λ f room. written_empty (copy_check f room) (length f);
      reporting = λ f. told_empty (TextIs f) text_most;
      explaining = λ f. told_empty (SaidIs f) said_most;
      deciding = decide_empty;
      trying = tried_empty;
      opening = open_empty;
      stand = stand_empty;
    }
