-- Laws of the calculator's text: what its lines are made of, that a file has one text, and the text of what was decided. Assumes nothing.
use Rattle.std.specs.Prelude.{Ok, Err}
use mathlib.Core.Path.{◌≡◌, refl, sym, ap, ap₂, ◌∙◌, subst}
use mathlib.Core.List.{List, [], ◌++◌}
use Prim.Native.Nat.{ℕ, zero, suc, ◌+◌, ◌≤◌, ◌<◌}
use native.Mathlib.Nat.{le_refl}
use native.Mathlib.Numerals.{add-one}
use native.Mathlib.Omega.{arith}
use lib.ListN.{get_or}
use Rattle.show.specs.declared.Show.{Show}
use Rattle.show.specs.declared.refusal.Refusal.{Refusal}
use Rattle.show.specs.declared.refusal.Refusal.TheVariants.{NoSet}
use Rattle.show.proofs.Checks.{within_refused}
use Rattle.showfile.specs.declared.Reading.{Reading}
use Rattle.showfile.specs.Answers.{read_of}
use Rattle.showfile.proofs.Readable.{read_within}
use Rattle.text.specs.Ascii.{ascii}
use Rattle.text.specs.Lines.{two_line, refused_text}
use Rattle.theory.specs.Counts.{Load, round_time, needed}
use Rattle.theory.specs.Shows.{load_of}
use Rattle.theory.proofs.Rounds.{round_same, smallest_once}
use Rattle.verdict.specs.declared.Decision.{Decision}
use Rattle.verdict.specs.Answers.{DecisionIs, accepted, no_set, outside, row, set_of}
use Rattle.verdict.proofs.Sets.{set_of_row, row_smallest, times_same}
use Rattle.verdict.proofs.Once.{within_outside}
use Rattle.verdict.proofs.Decisions.{accepted_refused}
use Rattle.report.specs.Text.{four_line, session_line, session_lines, accepted_text}
use Rattle.report.specs.Answers.{load_in, TextIs, granted, eight, unread}
use Rattle.report.specs.Steps.{Timed}

pub lines_none : (l : Load) (m : ℕ → ℕ) → session_lines l m 0 ≡ []
unfolding session_lines
lines_none l m = refl

pub lines_more : (l : Load) (m : ℕ → ℕ) (i : ℕ) → session_lines l m (i + 1) ≡ session_lines l m i ++ session_line l m i
unfolding session_lines
lines_more l m i = rw (add-one i)

-- What a session's line is made of, in the arrays that a decision has.
pub line_made :
    (s : Show) (counts times : List ℕ) → Timed s counts times → (i : ℕ) → i < s.playing →
    four_line i (get_or counts i 0) (get_or times i 0) (needed (load_of s) i (get_or counts i 0)) ≡ session_line (load_of s) (set_of counts) i
line_made s counts times h i l =
    ap (λ (t : ℕ). four_line i (get_or counts i 0) t (needed (load_of s) i (get_or counts i 0)))
    (ap (λ (x : List ℕ). get_or x i 0) h.times ∙ set_of_row (load_of s) (λ k. ((load_of s).stream k).time (set_of counts k)) i l)

-- ---- one text for a file

-- Sets that agree at every session are told alike.
module _ (l : Load) (m o : ℕ → ℕ) (same : (i : ℕ) → i < l.playing → m i ≡ o i) where
  lines_same : (n : ℕ) → n ≤ l.playing → session_lines l m n ≡ session_lines l o n
  unfolding session_lines
  lines_same zero h = refl
  lines_same (suc n) h =
      ap₂ (λ (a b : List ℕ). a ++ b) (lines_same n (omega arith))
      (ap (λ (k : ℕ). four_line n k ((l.stream n).time k) (needed l n k)) (same n (omega arith)))

  text_same : accepted_text l m ≡ accepted_text l o
  text_same =
      ap₂ (λ (r : ℕ) (a : List ℕ). two_line (ascii "accepted ") l.playing r ++ a) (round_same l m o same) (lines_same l.playing (le_refl _))

pub text_once : (f t u : List ℕ) → TextIs f t → TextIs f u → t ≡ u
text_once f t u (granted m e s) (granted o g r) = text_same (load_in f) m o (smallest_once (load_in f) m o s r)
text_once f t u (granted m e s) (eight g none) = absurd (none (m, s.good))
text_once f t u (granted m e s) (unread w g) = within_refused (sym e ∙ g)
text_once f t u (eight e none) (granted o g r) = absurd (none (o, r.good))
text_once f t u (eight e none) (eight g nor) = refl
text_once f t u (eight e none) (unread w g) = within_refused (sym e ∙ g)
text_once f t u (unread v e) (granted o g r) = within_refused (sym g ∙ e)
text_once f t u (unread v e) (eight g nor) = within_refused (sym g ∙ e)
text_once f t u (unread v e) (unread w g) =
    let h : Err v ≡ Err w = sym e ∙ g in let same : v ≡ w = cc in ap refused_text same

-- ---- the text of what was decided

-- What an accepted decision on the show s, which was read from the file f, is told as.
pub record ToldYes (f : List ℕ) (s : Show) (d : Decision) : Type 0 where
  pub told : TextIs f (accepted_text (load_of s) (set_of d.counts))
  pub timed : Timed s d.counts d.times
  pub round : d.round ≡ round_time (load_of s) (set_of d.counts)

module _ (f : List ℕ) (e : (read_of f).check ≡ Ok tt) where
  decided_yes : (d : Decision) → DecisionIs (read_of f).show d → d.verdict ≡ Ok tt → ToldYes f (read_of f).show d
  decided_yes d (accepted m w s) g =
      let back : (i : ℕ) → i < (load_in f).playing → m i ≡ set_of (row (load_in f) m) i = (λ i h. sym (set_of_row (load_in f) m i h)) in
      record {
        told = granted (set_of (row (load_in f) m)) e (row_smallest (load_in f) m s);
        timed = record { within = w; times = times_same (load_in f) m (set_of (row (load_in f) m)) back };
        round = round_same (load_in f) m (set_of (row (load_in f) m)) back;
      }
  decided_yes d (no_set w none) g = accepted_refused g
  decided_yes d (outside w out) g = accepted_refused g

  decided_no : (w : Refusal) (d : Decision) → DecisionIs (read_of f).show d → d.verdict ≡ Err w → TextIs f (refused_text w)
  decided_no w d (accepted m v s) g = accepted_refused (sym g)
  decided_no w d (no_set v none) g =
      let h : Err NoSet ≡ Err w = g in
      let same : NoSet ≡ w = cc in
      subst (λ (x : Refusal). TextIs f (refused_text x)) same (eight e none)
  decided_no w d (outside v out) g = within_outside (read_of f).show v (read_within f e) out

-- The same of what a call read.
module _ (f : List ℕ) (g : Reading) (r : g ≡ read_of f) where
  pub told_unread : (w : Refusal) → g.check ≡ Err w → TextIs f (refused_text w)
  told_unread w h = unread w (ap (λ (x : Reading). x.check) (sym r) ∙ h)

  pub told_yes : g.check ≡ Ok tt → (d : Decision) → DecisionIs g.show d → d.verdict ≡ Ok tt → ToldYes f g.show d
  told_yes e d =
      subst (λ (x : Reading). x.check ≡ Ok tt → DecisionIs x.show d → d.verdict ≡ Ok tt → ToldYes f x.show d) (sym r)
      (λ h. decided_yes f h d) e

  pub told_no :
      g.check ≡ Ok tt → (d : Decision) (w : Refusal) → DecisionIs g.show d → d.verdict ≡ Err w → TextIs f (refused_text w)
  told_no e d w =
      subst (λ (x : Reading). x.check ≡ Ok tt → DecisionIs x.show d → d.verdict ≡ Err w → TextIs f (refused_text w)) (sym r)
      (λ h. decided_no f h w d) e
