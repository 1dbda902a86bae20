-- The calls for C: the one number, and the order in which it tells refusals. Assumes nothing.
use Rattle.std.specs.Prelude.{Ok, Err}
use Prim.Native.Nat.{ℕ, ◌/◌, ◌%◌, ◌<◌}
use mathlib.Core.Path.{◌≡◌, refl, sym, subst, ◌∙◌}
use mathlib.Core.List.{List, []}
use native.Mathlib.Omega.{arith}
use lib.ListN.{length}
use Rattle.show.specs.Outcomes.{Check}
use Rattle.show.specs.declared.refusal.Refusal.{Refusal}
use Rattle.show.specs.Refusals.{number_of, place_of}
use Rattle.show.specs.Outcomes.{Outcome, granted, refused_by}
use Rattle.show.proofs.Checks.{within_refused}
use Rattle.show.proofs.Shows.{within_check}
use Rattle.showfile.specs.Answers.{read_of}
use Rattle.showfile.proofs.Readable.{read_within}
use Rattle.theory.specs.Counts.{Accepted}
use Rattle.verdict.specs.declared.Decision.{Decision}
use Rattle.verdict.specs.Answers.{verdict_outcome}
use Rattle.reason.specs.Answers.{Reasoned, ReasonIs}
use Rattle.reason.specs.Answers as why
use Rattle.report.specs.Answers.{load_in}
use Rattle.chikchiro.specs.Answers.{code_of, verdict_code, reason_code, Slices, Enough, FileDecisionIs, DecidedIs, FileReasonIs, ReasonedIs}
use Rattle.chikchiro.specs.Answers as answers
use Rattle.promises.specs.Order.{Grants, ◌when◌else◌, FileThen}
use Rattle.promises.specs.Embedded.{code_outcome}
use Rattle.promises.proofs.Numbered.{numbered}
use Rattle.promises.proofs.Tells.{after}
use Rattle.promises.proofs.OrderOfShows.{eight_tells}
use Rattle.promises.proofs.OrderOfFiles.{file_tells, read_check_is}

-- ---- one number

pub code_number : (w : Refusal) → code_of w % 256 ≡ number_of w
code_number w = let n = numbered.number w in omega arith

pub code_place : (w : Refusal) → code_of w / 256 ≡ place_of w
code_place w = let n = numbered.number w in omega arith

pub code_some : (w : Refusal) → code_of w ≡ 0 → ⊥
code_some w e = let n = numbered.number w in omega arith

pub code_outcome_is : (w : Refusal) → code_outcome (code_of w) ≡ refused_by w
code_outcome_is w = rw (code_number w, code_place w)

verdict_outcome_is : (v : Check) → code_outcome (verdict_code v) ≡ verdict_outcome v
verdict_outcome_is (Ok tt) = refl
verdict_outcome_is (Err w) = code_outcome_is w

-- ---- the order

module _ (f : List ℕ) where
  -- a file that is refused is told by its check, ..
  unread_tells : (w : Refusal) {rest : Outcome → Type 0} → (read_of f).check ≡ Err w → FileThen f rest (refused_by w)
  unread_tells w {rest} e =
      let k = sym (read_check_is f) ∙ e in
      subst (λ (k : Check). FileThen f rest (after k (granted []))) k (file_tells f (granted []) (λ h. within_refused (sym h ∙ k)))

  -- .. another by what comes of its show
  read_tells : (o : Outcome) {rest : Outcome → Type 0} → (read_of f).check ≡ Ok tt → rest o → FileThen f rest o
  read_tells o {rest} e g =
      subst (λ (k : Check). FileThen f rest (after k o)) (sym (read_check_is f) ∙ e) (file_tells f o (λ h. g))

  file_decided_tells :
      (d : Decision) → FileDecisionIs f d →
      FileThen f (8 when (Accepted (load_in f) → ⊥) else Grants) (verdict_outcome d.verdict)
  file_decided_tells d (answers.read _ e h) = read_tells (verdict_outcome d.verdict) e (eight_tells (read_of f).show d (read_within f e) h)
  file_decided_tells d (answers.unread w e) = unread_tells w e

  pub decided_tells :
      (b : Slices) (r : ℕ) (x : Slices) → DecidedIs f b r x →
      (16 when (Enough b → ⊥) else FileThen f (8 when (Accepted (load_in f) → ⊥) else Grants)) (code_outcome r)
  decided_tells b r x (answers.short n) = record { present = λ c. refl; absent = λ c. absurd (c n) }
  decided_tells b r x (answers.decided d h k) =
      record { present = λ n. absurd (n h); absent = λ c. rw (verdict_outcome_is d.verdict) (file_decided_tells d k) }

  reason_grants : (p : Reasoned) → (read_of f).check ≡ Ok tt → ReasonIs (read_of f).show p → Grants (code_outcome (reason_code p))
  reason_grants p e (why.none h a) = refl
  reason_grants p e (why.overload h a) = refl
  reason_grants p e (why.beyond h a) = refl
  reason_grants p e (why.buffer i size h a) = refl
  reason_grants p e (why.outside w out) = within_refused (sym (within_check (read_of f).show (read_within f e)) ∙ out)

  file_reasoned_tells : (p : Reasoned) → FileReasonIs f p → FileThen f Grants (code_outcome (reason_code p))
  file_reasoned_tells p (answers.read _ e h) = read_tells (code_outcome (reason_code p)) e (reason_grants p e h)
  file_reasoned_tells p (answers.unread w e) = rw (code_outcome_is w) (unread_tells w e)

  pub reasoned_tells :
      (b : List ℕ) (r : ℕ) (x : List ℕ) → ReasonedIs f b r x → (16 when length b < 3 else FileThen f Grants) (code_outcome r)
  reasoned_tells b r x (answers.short n) = record { present = λ c. refl; absent = λ c. absurd (c (omega arith)) }
  reasoned_tells b r x (answers.reasoned p h k) =
      record { present = λ n. absurd (let z : ⊥ = omega arith in z); absent = λ c. file_reasoned_tells p k }
