-- The order of refusals of the calls on a show. Assumes nothing.
use Rattle.std.specs.Prelude.{Ok, Err, Some, None}
use Prim.Native.Nat.{ℕ, ◌*◌}
use mathlib.Core.Path.{◌≡◌, refl, sym, ap, subst, ◌∙◌}
use mathlib.Core.List.{List, [], ◌∷◌}
use native.Mathlib.Decide.{dec_lt}
use lib.IntN.{pos}
use Rattle.show.specs.Outcomes.{Check}
use Rattle.show.specs.declared.Show.{Show}
use Rattle.show.specs.declared.refusal.Refusal.{Refusal}
use Rattle.show.specs.declared.refusal.Refusal.TheVariants as refusal
use Rattle.show.specs.Limits.{rate_most, LaidWithin, PlayingWithin, ShowWithin, layout_at, session_at}
use Rattle.show.specs.Decisions.{between?, counts?, drive?, layout?, session?}
use Rattle.show.specs.Checks.{unless, first, first_below, limits_check, show_check, layouts_check, sessions_check}
use Rattle.show.specs.Outcomes.{Outcome, granted, refused_by, check_outcome}
use Rattle.show.proofs.Checks.{within_refused, first_within}
use Rattle.show.proofs.Rows.{row_within, row_kept, row_lowest}
use Rattle.show.proofs.Shows.{within_check}
use Rattle.cost.specs.Bound.{worst_time}
use Rattle.cost.specs.Costs.{cost_of}
use Rattle.cost.specs.WorstTimes.{limited?, cylinder_check, cost_check, takes_of, worst_of}
use Rattle.theory.specs.Counts.{Accepted}
use Rattle.theory.specs.Rounds.{need}
use Rattle.theory.specs.Reasons.{tenths}
use Rattle.theory.specs.Shows.{load_of}
use Rattle.count.specs.Answers.{block?, block_check, rate_check, need_of}
use Rattle.verdict.specs.declared.Decision.{Decision}
use Rattle.trial.specs.declared.Trial.{Trial}
use Rattle.verdict.specs.Answers.{DecisionIs, accepted, no_set, outside, verdict_outcome}
use Rattle.trial.specs.Answers.{TrialIs, holds, fails, untried, answer_outcome}
use Rattle.reason.specs.declared.Reason.TheVariants as reason
use Rattle.reason.specs.Answers.{Reasoned, ReasonIs, loaded_of, reason_outcome}
use Rattle.reason.specs.Answers as why
use Rattle.run.specs.declared.Opened.{Opened}
use Rattle.run.specs.Opening.{OpenIs}
use Rattle.promises.specs.Order.{refused_with, Grants, ◌when◌else◌, Row, LimitsThen, ShowThen, OfShows}
use Rattle.promises.proofs.Tells.{after, after_first, unless_fails, below_tests, tells_last, tells_then}
use Rattle.promises.proofs.Tells.{check_outcome_is, worst_outcome_is, asked_outcome_is, loaded_outcome_is, opened_outcome}

-- ---- rows

module _ (p : ℕ → Type 0) (told : (i : ℕ) → Dec (p i)) (why : ℕ → Refusal) (n : ℕ) (known : (i : ℕ) → refused_by (why i) ≡ refused_with n i) where
  abbrev row : ℕ → Check
  row i = unless (told i) (why i)

  row_tells :
      (o : Outcome) {rest : Outcome → Type 0} (count : ℕ) → (first_below row count ≡ Ok tt → rest o) →
      Row n p count rest (after (first_below row count) o)
  row_tells o {rest} count g = from (first_below row count) refl
    where
      from : (k : Check) → first_below row count ≡ k → Row n p count rest (after k o)
      from (Ok tt) e = record { present = λ i l b. absurd (b (row_within p told why count e i l)); absent = λ c. g e }
      from (Err w) e =
          record {
            present = λ i l b.
                (let r = row_lowest p told why count e in
                (r.0, (r.1, ap refused_by (sym r.2) ∙ known r.0)));
            absent = λ c. within_refused (sym (row_kept p told why count c) ∙ e);
          }

module _ (s : Show) (o : Outcome) {rest : Outcome → Type 0} where
  -- 5, 6, 7
  pub limits_tell : (limits_check s ≡ Ok tt → rest o) → LimitsThen s rest (after (limits_check s) o)
  limits_tell g =
      tells_then _ (first (layouts_check s) (sessions_check s)) (unless_fails (drive? s.drive)) refl
      (λ d.
      rw (after_first (layouts_check s) (sessions_check s) o)
      (row_tells (LaidWithin s) (λ i. layout? (layout_at s i)) refusal.LayoutLimits 6 (λ i. refl) (after (sessions_check s) o) s.laid
      (λ l.
      row_tells (PlayingWithin s) (λ i. session? s.laid (session_at s i)) refusal.SessionLimits 7 (λ i. refl) o s.playing
      (λ p. g (first_within _ _ d ∙ first_within _ _ l ∙ p)))))

  -- 2, 5, 6, 7
  pub show_tells : (show_check s ≡ Ok tt → rest o) → ShowThen s rest (after (show_check s) o)
  unfolding show_check
  show_tells g =
      tells_then _ (limits_check s) (unless_fails (counts? s.laid s.playing)) refl (λ c. limits_tell (λ l. g (first_within _ _ c ∙ l)))

-- ---- each call

module _ (s : Show) where
  abbrev Eight : Outcome → Type 0
  Eight = 8 when (Accepted (load_of s) → ⊥) else Grants

  -- outside its limits a show is told by its check
  outside_tells : (w : Refusal) {rest : Outcome → Type 0} → show_check s ≡ Err w → ShowThen s rest (refused_by w)
  outside_tells w {rest} e =
      subst (λ (k : Check). ShowThen s rest (after k (granted []))) e (show_tells s (granted []) (λ h. within_refused (sym h ∙ e)))

  -- within them, by what is granted
  within_tells : (o : Outcome) {rest : Outcome → Type 0} → ShowWithin s → rest o → ShowThen s rest o
  within_tells o {rest} h g = subst (λ (k : Check). ShowThen s rest (after k o)) (within_check s h) (show_tells s o (λ e. g))

  pub eight_tells : (d : Decision) → ShowWithin s → DecisionIs s d → Eight (verdict_outcome d.verdict)
  eight_tells d h (accepted m _ g) = record { present = λ n. absurd (n (m, g.good)); absent = λ c. refl }
  eight_tells d h (no_set _ none) = record { present = λ n. refl; absent = λ c. absurd (c none) }
  eight_tells d h (outside w e) = within_refused (sym (within_check s h) ∙ e)

  decide_tells : (d : Decision) → DecisionIs s d → ShowThen s Eight (verdict_outcome d.verdict)
  decide_tells d (accepted m h g) = within_tells _ h (eight_tells d h (accepted m h g))
  decide_tells d (no_set h none) = within_tells _ h (eight_tells d h (no_set h none))
  decide_tells d (outside w e) = outside_tells w e

  try_tells : (m : List ℕ) (t : Trial) → TrialIs s m t → ShowThen s Grants (answer_outcome t.answer)
  try_tells m t (holds h g) = within_tells (granted (pos 1 ∷ [])) h refl
  try_tells m t (fails h g) = within_tells (granted (pos 0 ∷ [])) h refl
  try_tells m t (untried w e) = outside_tells w e

  why_tells : (r : Reasoned) → ReasonIs s r → ShowThen s Grants (reason_outcome r)
  why_tells r (why.none h a) = within_tells (reason_outcome (Ok None)) h refl
  why_tells r (why.overload h a) = within_tells (reason_outcome (Ok (Some reason.Overload))) h refl
  why_tells r (why.beyond h a) = within_tells (reason_outcome (Ok (Some reason.Beyond))) h refl
  why_tells r (why.buffer i size h a) = within_tells (reason_outcome (Ok (Some (reason.Buffer i size)))) h refl
  why_tells r (why.outside w e) = outside_tells w e

  open_tells : (o : Opened) → OpenIs s o → ShowThen s Eight (check_outcome o.check)
  open_tells o h =
      let d = h.decision in
      let e : check_outcome o.check ≡ verdict_outcome d.verdict =
      ap (λ (x : Opened). check_outcome x.check) h.answers ∙ opened_outcome s d.counts d.verdict in
      rw e (decide_tells d h.decides)

pub order_of_shows : OfShows
unfolding takes_of need_of worst_of loaded_of
order_of_shows =
    record {
      check = λ s. rw (check_outcome_is (show_check s)) (show_tells s (granted []) (λ e. refl));
      takes = λ c N n.
          rw (worst_outcome_is (first (cylinder_check N) (cost_check c)) (worst_time N c n))
          (tells_then _ (cost_check c) (unless_fails (between? 1 N 65536)) refl (λ e. tells_last _ (unless_fails (limited? c)) refl (λ e. refl)));
      need = λ R A t.
          rw (asked_outcome_is (first (block_check A) (rate_check R)) (need R (A * 1000000) t))
          (tells_then _ (rate_check R) (unless_fails (block? A)) refl (λ e. tells_last _ (unless_fails (between? 1 R rate_most)) refl (λ e. refl)));
      worst_time = λ s i n.
          (let k = unless (dec_lt i s.playing) refusal.NoSession in
          let t = worst_time s.drive.cylinder (cost_of s i) n in
          rw (worst_outcome_is (first (show_check s) k) t ∙ after_first (show_check s) k _)
          (show_tells s (after k (granted (pos t ∷ []))) (λ e. tells_last _ (below_tests i s.playing) refl (λ e. refl))));
      deciding = decide_tells;
      trying = try_tells;
      why = why_tells;
      load = λ s. rw (loaded_outcome_is (show_check s) (tenths (load_of s))) (show_tells s (granted (pos (tenths (load_of s)) ∷ [])) (λ e. refl));
      opening = open_tells;
    }
