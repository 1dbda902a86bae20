-- The calls for C. Assumes nothing.
use Rattle.std.specs.Prelude.{Ok, Err, Some, None}
use Prim.Native.Nat.{ℕ, ◌≤◌, ◌<◌}
use mathlib.Core.Path.{◌≡◌, refl}
use mathlib.Core.List.{List, [], ◌∷◌}
use mathlib.Core.Logic.Dec
use mathlib.Core.Logic.{◌↔◌}
use native.Mathlib.Decide.{dec_le}
use native.Mathlib.Omega.{arith}
use lib.ListN.{length, length-append}
use Rattle.show.specs.Outcomes.{Check}
use Rattle.show.specs.declared.refusal.Refusal.{Refusal}
use Rattle.show.specs.declared.refusal.Refusal.TheVariants.{NoSet, BufferShort}
use Rattle.show.specs.Refusals.{number_of, place_of}
use Rattle.show.specs.Decisions.{decided}
use Rattle.showfile.specs.Answers.{read_of}
use Rattle.verdict.specs.declared.Decision.{Decision}
use Rattle.verdict.specs.Answers.{refused_for}
use Rattle.verdict.proofs.Decisions.{accepted_refused}
use Rattle.reason.specs.Answers.{Reasoned}
use Rattle.reason.specs.declared.Reason.TheVariants as reason
use Rattle.reason.proofs.Once.{reason_given}
use Rattle.text.specs.Ascii.{ascii}
use Rattle.text.specs.Lines.{two_line, refused_text}
use Rattle.text.specs.Told.{told, short}
use Rattle.text.proofs.Lines.{two_length}
use Rattle.theory.specs.Counts.{round_time}
use Rattle.report.specs.Text.{session_lines}
use Rattle.report.specs.Answers.{TextIs, granted, eight, unread, load_in, text_most}
use Rattle.chikchiro.specs.Answers.{code_of, verdict_code, filled_by, Slices, Enough, ReportedIs, reported}
use Rattle.chikchiro.specs.Answers.{FileDecisionIs, DecidedIs, FileReasonIs, ReasonedIs, reason_code, reason_over}
use Rattle.chikchiro.specs.Answers as answers
use Rattle.promises.specs.Refusals.{Says}
use Rattle.promises.specs.Embedded.{Embedded, code_outcome}
use Rattle.promises.proofs.Answered.{answered}
use Rattle.promises.proofs.OrderForC.{code_number, code_place, code_some, code_outcome_is, decided_tells, reasoned_tells}
use Rattle.promises.proofs.Says.{says, grants_among, when_among, file_among}

-- ---- answers

yes_alone : (v : Check) → (verdict_code v ≡ 0) ↔ (v ≡ Ok tt)
yes_alone (Ok tt) = (λ e. refl, λ e. refl)
yes_alone (Err w) = (λ e. absurd (code_some w e), λ e. accepted_refused e)

enough? : (b : Slices) → Dec (Enough b)
enough? b =
    decided (λ h. record { counts = h.0; times = h.1.0; round = h.1.1 }) (λ h. (h.counts, (h.times, h.round)))
    (Dec.and (dec_le 16 (length b.counts)) (Dec.and (dec_le 16 (length b.times)) (dec_le 1 (length b.round))))

module _ (f : List ℕ) where
  file_decided : (d : Decision) × FileDecisionIs f d
  file_decided = from (read_of f).check refl
    where
      from : (k : Check) → (read_of f).check ≡ k → (d : Decision) × FileDecisionIs f d
      from (Ok tt) e = let d = answered.deciding (read_of f).show in (d.0, answers.read d.0 e d.1)
      from (Err w) e = (refused_for w, answers.unread w e)

  file_reasoned : (r : Reasoned) × FileReasonIs f r
  file_reasoned = from (read_of f).check refl
    where
      from : (k : Check) → (read_of f).check ≡ k → (r : Reasoned) × FileReasonIs f r
      from (Ok tt) e = let r = reason_given (read_of f).show in (r.0, answers.read r.0 e r.1)
      from (Err w) e = (Err w, answers.unread w e)

  decides : (b : Slices) → (r : ℕ) × ((x : Slices) × DecidedIs f b r x)
  decides b = from (enough? b)
    where
      from : Dec (Enough b) → (r : ℕ) × ((x : Slices) × DecidedIs f b r x)
      from (no n) = (code_of BufferShort, (b, answers.short n))
      from (yes h) =
          let d = file_decided in
          (verdict_code d.0.verdict, (filled_by d.0.verdict d.0 b, answers.decided d.0 h d.1))

  reasons : (b : List ℕ) → (r : ℕ) × ((x : List ℕ) × ReasonedIs f b r x)
  reasons b = from (dec_le 3 (length b))
    where
      from : Dec (3 ≤ length b) → (r : ℕ) × ((x : List ℕ) × ReasonedIs f b r x)
      from (no n) = (code_of BufferShort, (b, answers.short n))
      from (yes h) = let p = file_reasoned in (reason_code p.0, (reason_over p.0 b, answers.reasoned p.0 h p.1))

-- ---- the numbers that are said

says_deciding :
    (f : List ℕ) (b : Slices) (r : ℕ) (x : Slices) → DecidedIs f b r x → Says code_of r (16 ∷ 1 ∷ 2 ∷ 3 ∷ 4 ∷ 5 ∷ 6 ∷ 7 ∷ 8 ∷ [])
says_deciding f b r x h =
    let l : List ℕ = 16 ∷ 1 ∷ 2 ∷ 3 ∷ 4 ∷ 5 ∷ 6 ∷ 7 ∷ 8 ∷ [] in
    says code_of code_outcome code_outcome_is l r
    (when_among l tt (file_among l tt tt tt (when_among l tt (grants_among l)) f tt tt tt tt) (decided_tells f b r x h))

says_reasoning : (f b : List ℕ) (r : ℕ) (x : List ℕ) → ReasonedIs f b r x → Says code_of r (16 ∷ 1 ∷ 2 ∷ 3 ∷ 4 ∷ 5 ∷ 6 ∷ 7 ∷ [])
says_reasoning f b r x h =
    let l : List ℕ = 16 ∷ 1 ∷ 2 ∷ 3 ∷ 4 ∷ 5 ∷ 6 ∷ 7 ∷ [] in
    says code_of code_outcome code_outcome_is l r
    (when_among l tt (file_among l tt tt tt (grants_among l) f tt tt tt tt) (reasoned_tells f b r x h))

-- ---- what is left

kept_by : (v : Check) (d : Decision) (b : Slices) → (verdict_code v ≡ 0 → ⊥) → filled_by v d b ≡ b
kept_by (Ok tt) d b n = absurd (n refl)
kept_by (Err w) d b n = refl

kept_deciding : (f : List ℕ) (b : Slices) (r : ℕ) (x : Slices) → DecidedIs f b r x → (r ≡ 0 → ⊥) → x ≡ b
kept_deciding f b r x (answers.short h) n = refl
kept_deciding f b r x (answers.decided d h k) n = kept_by d.verdict d b n

reason_kept : (p : Reasoned) (b : List ℕ) → (reason_code p ≡ 0 → ⊥) → reason_over p b ≡ b
reason_kept (Ok None) b n = absurd (n refl)
reason_kept (Ok (Some reason.Overload)) b n = absurd (n refl)
reason_kept (Ok (Some reason.Beyond)) b n = absurd (n refl)
reason_kept (Ok (Some (reason.Buffer i size))) b n = absurd (n refl)
reason_kept (Err w) b n = refl

kept_reasoning : (f b : List ℕ) (r : ℕ) (x : List ℕ) → ReasonedIs f b r x → (r ≡ 0 → ⊥) → x ≡ b
kept_reasoning f b r x (answers.short h) n = refl
kept_reasoning f b r x (answers.reasoned p h k) n = reason_kept p b n

-- ---- the report

refused_some : (w : Refusal) → 1 ≤ length (refused_text w)
refused_some w = let n = two_length (ascii "refused ") (number_of w) (place_of w) in omega arith

text_some : (f t : List ℕ) → TextIs f t → 1 ≤ length t
text_some f t (granted m e h) =
    let l = load_in f in
    let n = two_length (ascii "accepted ") l.playing (round_time l m) in
    let k = length-append (two_line (ascii "accepted ") l.playing (round_time l m)) (session_lines l m l.playing) in
    omega arith
text_some f t (eight e none) = refused_some NoSet
text_some f t (unread w e) = refused_some w

report_none : (f b : List ℕ) (n : ℕ) (x : List ℕ) → ReportedIs f b n x → (n ≡ 0) ↔ (length b < text_most)
report_none f b n x (reported r _ (told t h l)) = let k = text_some f t h in (λ e. omega arith, λ e. omega arith)
report_none f b n x (reported r _ (short l)) = (λ e. l, λ e. refl)

report_kept : (f b : List ℕ) (n : ℕ) (x : List ℕ) → ReportedIs f b n x → length b < text_most → x ≡ b
report_kept f b n x (reported r _ (told t h l)) s = absurd (let z : ⊥ = omega arith in z)
report_kept f b n x (reported r _ (short l)) s = refl

pub embedded : Embedded
embedded =
    record {
      reporting = λ f b. (let r = answered.reporting f b in (r.0.len, (r.1.0, reported r.0 r.1.0 r.1.1)));
      deciding = decides;
      reasoning = reasons;
      number = code_number;
      place = code_place;
      yes = yes_alone;
      decided_says = says_deciding;
      reasoned_says = says_reasoning;
      decided_order = decided_tells;
      reasoned_order = reasoned_tells;
      decided_kept = kept_deciding;
      reasoned_kept = kept_reasoning;
      report_none = report_none;
      report_kept = report_kept;
    }
