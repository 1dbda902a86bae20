-- Wrong answers that the contracts rule out, of shows, costs, counts, verdicts and reasons: each is computed, or cites the one answer that
-- there is. Assumes nothing.
use Rattle.std.specs.Prelude.{Ok, Err, Some, None, Result, Bool, true, false}
use Prim.Native.Nat.{ℕ, ◌+◌, ◌*◌, ◌≤◌}
use mathlib.Core.Path.{refl, sym, ap, ◌∙◌}
use mathlib.Core.List.{[], ◌∷◌}
use mathlib.Core.Logic.Dec
use mathlib.Core.Logic.{inl, inr}
use native.Mathlib.Omega.{arith}
use native.Mathlib.Decide.{dec_lt, dec_le, ℕ_discrete}
use lib.ListN.{replicate}
use Rattle.show.specs.Outcomes.{Check}
use Rattle.show.specs.declared.refusal.Refusal.{Refusal}
use Rattle.show.specs.declared.refusal.Refusal.TheVariants.{NoSet}
use Rattle.show.specs.declared.refusal.Told.{Told}
use Rattle.show.specs.Refusals.{number_of}
use Rattle.show.specs.Outcomes.{check_outcome}
use Rattle.show.specs.Decisions.{between?, counts?, drive?, layout?, session?}
use Rattle.show.specs.Checks.{show_check, first_below}
use Rattle.show.specs.Lists.{listed, padded}
use Rattle.show.proofs.Shows.{check_within}
use Rattle.cost.specs.Bound.{worst_time, edges, ceil}
use Rattle.cost.specs.Costs.{cost_of}
use Rattle.cost.specs.WorstTimes.{limited?, takes_of, worst_of}
use Rattle.count.specs.Answers.{block?, need_of}
use Rattle.theory.specs.Rounds.{need}
use Rattle.theory.specs.Sum.{sum_to}
use Rattle.theory.specs.Reasons.{tenths}
use Rattle.theory.specs.Shows.{load_of}
use Rattle.verdict.specs.declared.Decision.{Decision}
use Rattle.trial.specs.declared.Trial.{Trial}
use Rattle.verdict.specs.Answers.{set_of}
use Rattle.trial.specs.Answers.{TrialIs, holds, timed_as}
use Rattle.verdict.proofs.Once.{decision_once}
use Rattle.trial.proofs.Once.{trial_once}
use Rattle.reason.specs.declared.Reason.TheVariants as reason
use Rattle.reason.specs.Answers.{Reasoned, ReasonIs, loaded_of}
use Rattle.reason.proofs.Once.{reason_once}
use Rattle.promises.specs.Numbers.{X, clip, buffered, show_of, places}
use Rattle.promises.specs.Refusals.{OneOf}
use Rattle.promises.specs.RuledOut.{RuledOut, OfShow, OfCost, OfCount, OfVerdict, OfReason}
use Rattle.promises.proofs.Apart.{apart, other, check_number}
use Rattle.promises.proofs.Table.{table}
use Rattle.promises.proofs.Verdict.{verdicts}
use Rattle.promises.proofs.Only.{only}
use Rattle.promises.proofs.Refusals.{empty}
use Rattle.promises.proofs.Reasons.{reasons}
use Rattle.promises.proofs.Sayings.{one_short}
use Rattle.promises.proofs.RuledOutOfTexts.{of_showfile, of_showfile_write, of_parse, of_text, of_report, of_explain, of_chikchiro}
use Rattle.promises.proofs.RuledOutOfRuns.{of_run, of_run_test, of_player, of_playback, of_scheduler, of_standing, of_spare}

of_show : OfShow
unfolding show_check first_below counts? drive? layout? session? between? dec_lt dec_le ℕ_discrete Dec.and
of_show =
    record {
      cylinder_too_large = λ w. (let h = w.cylinder.high in omega arith);
      no_block_time = λ w. (let h = w.time.low in omega arith);
      largest_buffer_refused = λ n.
          n (record { rate = omega arith; cushion = omega arith; buffer = omega arith; layout = omega arith });
      nothing_with_a_layout = λ e. other e tt;
      no_layouts = λ w. (let h = w.layouts.low in omega arith);
      looks_above_the_count = λ e. apart check_number e tt;
      higher_offender = λ e. apart (λ (c : Check). (check_outcome c).place) e tt;
      place_of_eight = λ e. apart (λ (t : Told). t.place) e tt;
      damaged_as_eighteen = λ e. apart (λ (t : Told). t.number) e tt;
    }

-- the time or the count of an answer, or the number of its refusal
abbrev taking : Result ℕ Refusal → ℕ
taking (Ok t) = t
taking (Err w) = 0

abbrev refusing : Result ℕ Refusal → ℕ
refusing (Ok t) = 0
refusing (Err w) = number_of w

abbrev counting : Result ℕ Refusal → ℕ
counting (Ok m) = m
counting (Err w) = 0

abbrev denying : Result ℕ Refusal → ℕ
denying (Ok m) = 0
denying (Err w) = number_of w

of_cost : OfCost
unfolding takes_of limited? worst_of show_check first_below counts? drive? layout? session? between? dec_lt dec_le ℕ_discrete Dec.and cost_of worst_time edges ceil
of_cost =
    record {
      long_seek_between_cylinders = λ e. other e tt;
      one_crossing_for_eleven = λ e. apart taking e tt;
      time_on_no_cylinder = λ t e. apart refusing e tt;
      six_before_five = λ e. apart refusing e tt;
      fixed_part_forgotten = λ e. apart taking e tt;
      session_at_the_count = λ t e. apart refusing e tt;
      eight_for_nine = λ e. apart refusing e tt;
    }

of_count : OfCount
unfolding need_of need block? between? dec_le ℕ_discrete Dec.and
of_count =
    record {
      product_cut_off = λ e. apart counting e tt;
      block_of_odd_size = λ m e. apart denying e tt;
      seven_before_five = λ e. apart denying e tt;
      enough_is_short = λ n. n (omega arith);
      a_byte_short_fits = λ h. (let f : ⊥ = omega arith in f);
    }

-- the number of an answer, where it is one of an enum
abbrev answered : Result Bool Refusal → ℕ
answered (Ok true) = 1
answered (Ok false) = 2
answered (Err w) = 3

abbrev accepting : Check → ℕ
accepting (Ok tt) = 1
accepting (Err w) = 2

-- p3's counts hold.
three_hold :
    TrialIs (show_of X (replicate 3 clip)) (places (replicate 3 2))
    (timed_as (Ok true) (load_of (show_of X (replicate 3 clip))) (set_of (places (replicate 3 2))))
unfolding show_check first_below counts? drive? layout? session? dec_lt listed padded
three_hold =
    holds (check_within (show_of X (replicate 3 clip)) refl) (verdicts.told (show_of X (replicate 3 clip)) _ table.p3.twice refl).good

of_verdict : OfVerdict
unfolding sum_to listed padded
of_verdict =
    record {
      refused_with_counts = λ s d h w e c. other (sym (ap (λ (x : Decision). set_of x.counts 0) (empty.deciding s d h w e)) ∙ c) tt;
      without_the_extra_block = λ d h e.
          apart accepting (sym (ap (λ (x : Decision). x.verdict) (decision_once _ d _ h table.p2.short.answer)) ∙ e) tt;
      without_the_last = λ d h e. other (sym (ap (λ (x : Decision). x.round) (decision_once _ d _ h table.p3.twice)) ∙ e) tt;
      yes_at_a_hundred = λ d h e.
          apart accepting
          (sym (ap (λ (x : Decision). x.verdict) (decision_once _ d _ h (table.p6.hundred (λ i. 200000000) (λ i l. omega arith)).answer)) ∙ e) tt;
      one_larger = λ d h e. other (sym (ap (λ (x : Decision). set_of x.counts 9) (decision_once _ d _ h table.p7.under)) ∙ e) tt;
      fails_though_they_hold = λ t h e. apart answered (sym (ap (λ (x : Trial). x.answer) (trial_once _ _ t _ h three_hold)) ∙ e) tt;
      holds_at_equality = λ t h e. apart answered (sym (ap (λ (x : Trial). x.answer) (trial_once _ _ t _ h table.p4.once)) ∙ e) tt;
      nine_hold_at_equality = λ t h e. apart answered (sym (ap (λ (x : Trial). x.answer) (trial_once _ _ t _ h table.p5.even)) ∙ e) tt;
    }

-- which reason, and its size
abbrev kind : Reasoned → ℕ
kind (Ok None) = 0
kind (Ok (Some reason.Overload)) = 1
kind (Ok (Some reason.Beyond)) = 2
kind (Ok (Some (reason.Buffer i size))) = 3 + size
kind (Err w) = 3

abbrev load : Result ℕ Refusal → ℕ
load (Ok n) = n
load (Err w) = 0

-- Of two whose buffers are a byte short, the first is too small for a count of 1.
second : ReasonIs (show_of X (replicate 2 (buffered 102400))) (Ok (Some (reason.Buffer 1 102401))) → ⊥
second h =
    let t = (((reasons.when_true (show_of X (replicate 2 (buffered 102400))) _ h).buffer 1 102401).0 refl).1 in
    let some : 1 ≤ t.counts 0 = t.smallest.good.counted 0 (omega arith) in
    let fits : (t.counts 0 + 1) * 51200 + 1 ≤ 102400 = t.lowest 0 (omega arith) in
    omega arith

of_reason : OfReason
unfolding loaded_of tenths show_check first_below counts? drive? layout? session? between? dec_lt dec_le ℕ_discrete Dec.and cost_of sum_to
of_reason =
    record {
      beyond_where_a_buffer_would_do = λ h. apart kind (reason_once _ _ _ h one_short) tt;
      size_without_the_one = λ h. apart kind (reason_once _ _ _ h one_short) tt;
      size_too_small = λ h. apart kind (reason_once _ _ _ h one_short) tt;
      highest_session = second;
      refused_as_eight = λ s h. none_of (only.why s _ h NoSet refl);
      without_crossings = λ e. apart load e tt;
      hundred_as_less = λ e. apart load e tt;
      rounded_up = λ e. apart load e tt;
    }
  where
    none_of : OneOf (2 ∷ 5 ∷ 6 ∷ 7 ∷ []) 8 → ⊥
    none_of (inl z) = omega arith
    none_of (inr (inl z)) = omega arith
    none_of (inr (inr (inl z))) = omega arith
    none_of (inr (inr (inr (inl z)))) = omega arith
    none_of (inr (inr (inr (inr z)))) = z

pub ruled_out : RuledOut
ruled_out =
    record {
      show = of_show;
      cost = of_cost;
      count = of_count;
      verdict = of_verdict;
      reason = of_reason;
      run = of_run;
      run_test = of_run_test;
      player = of_player;
      playback = of_playback;
      scheduler = of_scheduler;
      standing = of_standing;
      spare = of_spare;
      showfile = of_showfile;
      showfile_write = of_showfile_write;
      parse = of_parse;
      text = of_text;
      report = of_report;
      explain = of_explain;
      chikchiro = of_chikchiro;
    }
