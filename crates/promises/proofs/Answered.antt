-- That there is an answer. Assumes nothing.
use Rattle.std.specs.Prelude.{Ok, Err, true, false}
use Prim.Native.Nat.{ℕ, ◌+◌, ◌≤◌, ◌<◌}
use mathlib.Core.Path.{◌≡◌, refl}
use mathlib.Core.List.{List, [], ◌∷◌}
use mathlib.Core.Logic.Dec
use native.Mathlib.Omega.{arith}
use native.Mathlib.Nat.{le_of_lt}
use native.Mathlib.Decide.{dec_le}
use lib.ListN.{length, get_or}
use Rattle.show.specs.Outcomes.{Check}
use Rattle.show.specs.declared.Layout.{Layout}
use Rattle.show.specs.declared.Session.{Session}
use Rattle.show.specs.declared.Show.{Show}
use Rattle.show.specs.declared.refusal.Refusal.TheVariants.{NoSet, BufferShort}
use Rattle.show.specs.Limits.{ShowWithin}
use Rattle.show.specs.Checks.{show_check}
use Rattle.show.proofs.Shows.{check_within}
use Rattle.cost.specs.Bound.{count_most}
use Rattle.theory.specs.Counts.{round_time, Good, Accepted}
use Rattle.theory.specs.Rounds.{asked, next, Sustains, Fits, LeastTime}
use Rattle.theory.specs.Reasons.{tenths}
use Rattle.theory.specs.Shows.{load_of}
use Rattle.theory.proofs.Rounds.{round_grows, time_accepts, accepted_has_least, least_round, least_smallest}
use Rattle.theory.proofs.Shows.{show_sound, feasible_few}
use Rattle.showfile.specs.declared.Written.{Written}
use Rattle.showfile.specs.Answers.{read_of, written, written_over}
use Rattle.showfile.specs.File.{layout_of, layout_bytes, session_of, session_bytes}
use Rattle.showfile.specs.Rows.{words_of, bytes_of}
use Rattle.showfile.proofs.Readable.{read_within}
use Rattle.verdict.specs.declared.Decision.{Decision}
use Rattle.trial.specs.declared.Trial.{Trial}
use Rattle.verdict.specs.Answers.{DecisionIs, accepted, no_set, outside, accepted_with, refused_for, set_of}
use Rattle.trial.specs.Answers.{TrialIs, holds, fails, untried, timed_as, untried_for}
use Rattle.verdict.proofs.Once.{within_outside}
use Rattle.run.specs.Decisions.{below?, some?, good?}
use Rattle.run.specs.Opening.{opened_by}
use Rattle.text.specs.Lines.{refused_text}
use Rattle.text.specs.Told.{ToldIs, told, short}
use Rattle.report.specs.Text.{accepted_text}
use Rattle.report.specs.Answers.{load_in, TextIs, granted, eight, unread, text_most}
use Rattle.reason.proofs.Once.{reason_given}
use Rattle.explain.specs.Text.{reason_text, refusal_text}
use Rattle.explain.specs.Answers.{SaidIs, because, said_most}
use Rattle.explain.specs.Answers as saying
use Rattle.promises.specs.Answered.{Answered}

-- ---- records of a file

layout_from : (w : List ℕ) → (y : Layout) × ((s : List ℕ) → w ≡ words_of s → y ≡ layout_of s)
unfolding layout_of
layout_from w = (record { longest = get_or w 0 0; track = get_or w 1 0; time = get_or w 2 0; rotation = get_or w 3 0 }, λ s e. rw e refl)

session_from : (w : List ℕ) → (x : Session) × ((s : List ℕ) → w ≡ words_of s → x ≡ session_of s)
unfolding session_of
session_from w = (record { rate = get_or w 0 0; cushion = get_or w 1 0; buffer = get_or w 2 0; layout = get_or w 3 0 }, λ s e. rw e refl)

layout_words : (y : Layout) → (w : List ℕ) × (layout_bytes y ≡ bytes_of w)
unfolding layout_bytes
layout_words y = (y.longest ∷ y.track ∷ y.time ∷ y.rotation ∷ [], refl)

session_words : (x : Session) → (w : List ℕ) × (session_bytes x ≡ bytes_of w)
unfolding session_bytes
session_words x = (x.rate ∷ x.cushion ∷ x.buffer ∷ x.layout ∷ [], refl)

-- ---- verdicts

module _ (s : Show) (w : ShowWithin s) where
  -- a time that no least round passes: that of the largest counts
  abbrev longest : ℕ
  longest = round_time (load_of s) (λ i. count_most)

  least_few : (t : ℕ) → LeastTime (load_of s) t → Fits (load_of s) t → t ≤ longest
  least_few t h f =
      let l = show_sound s w in
      let g = round_grows (load_of s) l (asked (load_of s) t) (λ i. count_most) (λ i b. le_of_lt (feasible_few s w (asked (load_of s) t) f i b)) in
      let e = least_round (load_of s) l t h in
      omega arith

  -- So a search among the times up to it tells.
  accepted? : Dec (Accepted (load_of s))
  accepted? = from (some? (λ t. Dec.and (dec_le (next (load_of s) t) t) (below? (λ i. dec_le _ _) s.playing)) (longest + 1))
    where
      from : Dec ((t : ℕ) × ((t < longest + 1) × (Sustains (load_of s) t × Fits (load_of s) t))) → Dec (Accepted (load_of s))
      from (yes h) = yes (time_accepts (load_of s) (show_sound s w) h.0 h.1.1.0 h.1.1.1)
      from (no n) =
          no
          (λ a.
          let r = accepted_has_least (load_of s) (show_sound s w) a in
          n (r.0, ((let b = least_few r.0 r.1 r.2 in omega arith), (r.1.sustains, r.2))))

  decided_within : (d : Decision) × DecisionIs s d
  decided_within = from accepted?
    where
      from : Dec (Accepted (load_of s)) → (d : Decision) × DecisionIs s d
      from (yes a) =
          let l = show_sound s w in
          let r = accepted_has_least (load_of s) l a in
          let m = asked (load_of s) r.0 in
          (accepted_with (load_of s) m, accepted m w (least_smallest (load_of s) l r.0 r.1 r.2))
      from (no n) = (refused_for NoSet, no_set w n)

  tried_within : (m : List ℕ) → (t : Trial) × TrialIs s m t
  tried_within m = from (good? (load_of s) (set_of m))
    where
      from : Dec (Good (load_of s) (set_of m)) → (t : Trial) × TrialIs s m t
      from (yes g) = (timed_as (Ok true) (load_of s) (set_of m), holds w g)
      from (no n) = (timed_as (Ok false) (load_of s) (set_of m), fails w n)

decided : (s : Show) → (d : Decision) × DecisionIs s d
decided s = from (show_check s) refl
  where
    from : (k : Check) → show_check s ≡ k → (d : Decision) × DecisionIs s d
    from (Ok tt) e = decided_within s (check_within s e)
    from (Err w) e = (refused_for w, outside w e)

tried : (s : Show) (m : List ℕ) → (t : Trial) × TrialIs s m t
tried s m = from (show_check s) refl
  where
    from : (k : Check) → show_check s ≡ k → (t : Trial) × TrialIs s m t
    from (Ok tt) e = tried_within s (check_within s e) m
    from (Err w) e = (untried_for w, untried w e)

-- ---- texts

-- Where there is a text there is an answer, for every buffer.
told_by :
    (is : List ℕ → Type 0) (most : ℕ) (t : List ℕ) → is t → (b : List ℕ) → (r : Written) × ((x : List ℕ) × ToldIs is most b r x)
told_by is most t h b = from (dec_le most (length b))
  where
    from : Dec (most ≤ length b) → (r : Written) × ((x : List ℕ) × ToldIs is most b r x)
    from (yes l) = (written (Ok tt) (length t), (written_over (Ok tt) t b, told t h l))
    from (no l) = (written (Err BufferShort) 0, (b, short (omega arith)))

module _ (f : List ℕ) where
  text_by : (read_of f).check ≡ Ok tt → (d : Decision) → DecisionIs (read_of f).show d → (t : List ℕ) × TextIs f t
  text_by e d (accepted m w h) = (accepted_text (load_in f) m, granted m e h)
  text_by e d (no_set w none) = (refused_text NoSet, eight e none)
  text_by e d (outside w out) = within_outside (read_of f).show w (read_within f e) out

  text : (t : List ℕ) × TextIs f t
  text = from (read_of f).check refl
    where
      from : (k : Check) → (read_of f).check ≡ k → (t : List ℕ) × TextIs f t
      from (Ok tt) e = let d = decided (read_of f).show in text_by e d.0 d.1
      from (Err w) e = (refused_text w, unread w e)

  said : (t : List ℕ) × SaidIs f t
  said = from (read_of f).check refl
    where
      from : (k : Check) → (read_of f).check ≡ k → (t : List ℕ) × SaidIs f t
      from (Ok tt) e =
          let r = reason_given (read_of f).show in (reason_text r.0 (tenths (load_of (read_of f).show)), because r.0 e r.1)
      from (Err w) e = (refusal_text w, saying.unread w e)

pub answered : Answered
answered =
    record {
      layout_from = layout_from;
      session_from = session_from;
      layout_words = layout_words;
      session_words = session_words;
      deciding = decided;
      trying = tried;
      opening = λ s.
          (let d = decided s in
          (opened_by s d.0.counts d.0.verdict, record { decision = d.0; decides = d.1; answers = refl }));
      why = reason_given;
      reporting = λ f. told_by (TextIs f) text_most (text f).0 (text f).1;
      explaining = λ f. told_by (SaidIs f) said_most (said f).0 (said f).1;
    }
