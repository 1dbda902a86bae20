-- From what was decided, and from the reason, to what a call answers. Assumes nothing.
use Rattle.std.specs.Prelude.{Ok, Err}
use mathlib.Core.Path.{◌≡◌, sym, ap, subst, ◌∙◌}
use mathlib.Core.List.{List, [], ◌∷◌}
use Prim.Native.Nat.{ℕ, ◌≤◌}
use lib.ListN.{length}
use Rattle.show.specs.Outcomes.{Check}
use Rattle.show.specs.declared.Show.{Show}
use Rattle.show.specs.declared.refusal.Refusal.{Refusal}
use Rattle.show.specs.declared.refusal.Refusal.TheVariants.{NoSet}
use Rattle.showfile.specs.Bytes.{over}
use Rattle.showfile.specs.declared.Reading.{Reading}
use Rattle.showfile.specs.Answers.{read_of}
use Rattle.verdict.specs.declared.Decision.{Decision}
use Rattle.verdict.specs.Answers.{DecisionIs, accepted, no_set, outside, refused_for}
use Rattle.verdict.proofs.Decisions.{accepted_refused}
use Rattle.reason.specs.declared.Reason.TheVariants as reason
use Rattle.reason.specs.Answers.{Reasoned, ReasonIs}
use Rattle.reason.specs.Answers as why
use Rattle.chikchiro.specs.Answers.{FileDecisionIs, FileReasonIs, Slices, slices, Enough, verdict_code, filled_by, DecidedIs, code_of}
use Rattle.chikchiro.specs.Answers.{ReasonedIs, reason_code, reason_over}
use Rattle.chikchiro.specs.Answers as answers
use Rattle.chikchiro.proofs.Places.{Small, show_small, read_small}
use native.Mathlib.Omega.{arith}

-- ---- the verdict

abbrev check_of : Reading → Check
check_of g = g.check

pub decision_small : (f : List ℕ) (d : Decision) → FileDecisionIs f d → {w : Refusal} → d.verdict ≡ Err w → Small w
decision_small f d (answers.unread v e) {w} p =
    let q : Err v ≡ Err w = p in let same : v ≡ w = cc in subst Small same (read_small f e)
decision_small f d (answers.read _ e (accepted m h k)) p = accepted_refused (sym p)
decision_small f d (answers.read _ e (no_set h k)) {w} p =
    let q : Err NoSet ≡ Err w = p in let same : NoSet ≡ w = cc in subst Small same (omega arith)
decision_small f d (answers.read _ e (outside v k)) {w} p =
    let q : Err v ≡ Err w = p in let same : v ≡ w = cc in subst Small same (show_small (read_of f).show k)

-- what was read, and what was decided of it
module _ (f : List ℕ) (g : Reading) (is : g ≡ read_of f) where
  pub decision_read : (d : Decision) → g.check ≡ Ok tt → DecisionIs g.show d → FileDecisionIs f d
  decision_read d e h = answers.read d (ap check_of (sym is) ∙ e) (subst (λ (x : Reading). DecisionIs x.show d) is h)

  pub decision_unread : (w : Refusal) → g.check ≡ Err w → FileDecisionIs f (refused_for w)
  decision_unread w e = answers.unread w (ap check_of (sym is) ∙ e)

  pub reason_read : (r : Reasoned) → g.check ≡ Ok tt → ReasonIs g.show r → FileReasonIs f r
  reason_read r e h = answers.read r (ap check_of (sym is) ∙ e) (subst (λ (x : Reading). ReasonIs x.show r) is h)

  pub reason_unread : (w : Refusal) → g.check ≡ Err w → FileReasonIs f (Err w)
  reason_unread w e = answers.unread w (ap check_of (sym is) ∙ e)

module _ (f : List ℕ) (b : Slices) (d : Decision) (enough : Enough b) (is : FileDecisionIs f d) where
  by_verdict : {v : Check} → d.verdict ≡ v → DecidedIs f b (verdict_code v) (filled_by v d b)
  by_verdict p = subst (λ (v : Check). DecidedIs f b (verdict_code v) (filled_by v d b)) p (answers.decided d enough is)

  pub decided_no : {w : Refusal} {r : ℕ} → d.verdict ≡ Err w → r ≡ code_of w → DecidedIs f b r b
  decided_no p e = subst (λ (n : ℕ). DecidedIs f b n b) (sym e) (by_verdict p)

  pub decided_yes :
      {c t l : List ℕ} → d.verdict ≡ Ok tt → c ≡ over b.counts 0 d.counts → t ≡ over b.times 0 d.times →
      l ≡ over b.round 0 (d.round ∷ []) → DecidedIs f b 0 (slices c t l)
  decided_yes p e g h = rw (e, g, h) (by_verdict p)

-- ---- the reason

refused_small : (s : Show) (w : Refusal) → ReasonIs s (Err w) → Small w
refused_small s w (why.outside _ e) = show_small s e

pub reason_small : (f : List ℕ) (r : Reasoned) → FileReasonIs f r → {w : Refusal} → r ≡ Err w → Small w
reason_small f r (answers.unread v e) {w} p =
    let q : Err v ≡ Err w = p in let same : v ≡ w = cc in subst Small same (read_small f e)
reason_small f r (answers.read _ e h) {w} p = refused_small (read_of f).show w (subst (ReasonIs (read_of f).show) p h)

module _ (f b : List ℕ) (p : Reasoned) (enough : 3 ≤ length b) (is : FileReasonIs f p) where
  pub reasoned_as : {q : Reasoned} {r : ℕ} {x : List ℕ} → p ≡ q → r ≡ reason_code q → x ≡ reason_over q b → ReasonedIs f b r x
  reasoned_as {q} {r} {x} e g h =
      rw (g, h) (subst (λ (z : Reasoned). ReasonedIs f b (reason_code z) (reason_over z b)) e (answers.reasoned p enough is))
