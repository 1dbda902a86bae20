-- Wrong answers that the contracts rule out, of files and texts and of the calls for C: each is computed, or cites the one answer that there is, or the
-- order of the refusals. Assumes nothing.
use Rattle.std.specs.Prelude.{Ok, Some, None, Option}
use Prim.Native.Nat.{ℕ, ◌+◌}
use mathlib.Core.Path.{◌≡◌, refl, sym, ap, ◌∙◌}
use mathlib.Core.List.{List, [], ◌∷◌}
use mathlib.Core.Logic.Dec
use native.Mathlib.Omega.{arith}
use native.Mathlib.Decide.{dec_lt, dec_le, ℕ_discrete}
use lib.ListN.{length, replicate, get_or}
use Rattle.show.specs.declared.Show.{Show}
use Rattle.show.specs.declared.refusal.Refusal.TheVariants as refusal
use Rattle.show.specs.Limits.{layout_at}
use Rattle.show.specs.Outcomes.{check_outcome}
use Rattle.show.specs.Decisions.{between?, counts?, drive?, layout?, session?}
use Rattle.show.specs.Checks.{show_check, first_below}
use Rattle.show.specs.Lists.{listed, padded}
use Rattle.show.proofs.Checks.{within_refused}
use Rattle.show.proofs.Shows.{check_within}
use Rattle.showfile.specs.Bytes.{half_of, word_of, half_bytes, word_bytes, four_bytes, row_of, row_bytes, over}
use Rattle.showfile.specs.File.{layout_of, layout_bytes, session_of, session_bytes, trailer_of, trailer_bytes, show_from, trailer_for, file_of, zeroed}
use Rattle.showfile.specs.Checks.{distanced?, trailer_check}
use Rattle.showfile.specs.Answers.{read_check, read_at, read_of}
use Rattle.showfile.proofs.Readable.{check_readable}
use Rattle.showfile_write.specs.Answers.{write_check, written_of, buffer_of}
use Rattle.showfile_copy.specs.Trips.{reread_of, copy_check, copied_of, copy_of}
use Rattle.parse.specs.Parts.{find_of, parts_of, rest_of, part_of}
use Rattle.parse_numbers.specs.Numbers.{counted_of, longer_by, spelled, fitting, decimal_of}
use Rattle.parse_numbers.specs.Bytes.{joined, pairs_of, bytes_of, put_of}
use Rattle.text.specs.Decimal.{digits, decimal}
use Rattle.text_forms.specs.Forms.{next_text, form_text}
use Rattle.text_forms.specs.Hex.{hex_text}
use Rattle.text.specs.Puts.{put_over, put_to}
use Rattle.text.specs.Told.{told, short}
use Rattle.report.specs.Answers.{unread}
use Rattle.report.proofs.Texts.{text_once}
use Rattle.explain.specs.Text.{spoken, sentence}
use Rattle.explain.specs.Answers as said
use Rattle.explain.proofs.Texts.{said_once}
use Rattle.reason.specs.declared.Reason.TheVariants as reason
use Rattle.verdict.specs.Answers.{refused_for}
use Rattle.chikchiro.specs.Answers as answers
use Rattle.chikchiro.specs.Answers.{Slices, ReportedIs, reported, DecidedIs}
use Rattle.chikchiro.proofs.Once.{decided_once, reasoned_once}
use Rattle.promises.specs.Numbers.{X, clip, show_of}
use Rattle.promises.specs.Reports.{p3_file}
use Rattle.promises.specs.RuledOutOfTexts.{small, OfShowfile, OfShowfileWrite, OfParse, OfText, OfReport, OfExplain, OfChikchiro}
use Rattle.promises.proofs.Apart.{apart, other, outcome_number, check_number}
use Rattle.promises.proofs.Trips.{trips}
use Rattle.promises.proofs.Order.{order}
use Rattle.promises.proofs.Reports.{reports}
use Rattle.promises.proofs.Sayings.{sayings}

-- ---- files

pub of_showfile : OfShowfile
unfolding read_of read_at read_check distanced? trailer_check half_of word_of half_bytes word_bytes four_bytes row_of row_bytes layout_of layout_bytes session_of
    session_bytes trailer_of trailer_bytes show_from trailer_for zeroed show_check first_below counts? drive? layout? session? between? dec_lt dec_le
    ℕ_discrete Dec.and listed padded
of_showfile =
    record {
      file_one_byte_longer = λ f l e. (let h = (check_readable f e).size.high in let z : ⊥ = omega arith in z);
      note_one_byte_longer = λ f l e. (let h = (check_readable f e).framed.note in let z : ⊥ = omega arith in z);
      distance_by_layouts = λ e. apart check_number e tt;
      five_before_three = λ e. apart check_number e tt;
      unused_not_zero = λ e.
          other
          (sym
          (ap (λ (s : Show). (layout_at s 1).rotation)
          (trips.read_again (show_of X (replicate 3 clip)) [] (record { layouts = refl; sessions = refl }) (check_within _ refl) (omega arith)).same_show)
          ∙ e)
          tt;
      note_is_the_rest = λ e.
          other
          (sym
          (ap (λ (l : List ℕ). length l)
          (trips.read_again small (7 ∷ []) (record { layouts = refl; sessions = refl }) (check_within small refl) (omega arith)).same_note)
          ∙ e)
          tt;
      refusal_as_yes = λ w e. within_refused (sym e);
    }

pub of_showfile_write : OfShowfileWrite
unfolding write_check written_of buffer_of reread_of copy_check copied_of copy_of read_of read_at read_check distanced? trailer_check file_of half_of word_of
    half_bytes word_bytes four_bytes row_of row_bytes layout_of layout_bytes session_of session_bytes trailer_of trailer_bytes show_from trailer_for zeroed
    show_check first_below counts? drive? layout? session? between? dec_lt dec_le ℕ_discrete Dec.and listed padded
of_showfile_write =
    record {
      refused_leaves_the_note = λ e. other e tt;
      written_though_refused = λ e. other e tt;
      byte_past_the_file = λ e. other e tt;
      higher_byte_first = λ e. other e tt;
      length_of_nothing = λ e. other e tt;
      another_note = λ e. other e tt;
      rubbish_read_again = λ e. apart (λ (s : Show). (layout_at s 1).longest) e tt;
      copies_the_note_alone = λ e. other e tt;
      sixteen_before_one = λ e. apart check_number e tt;
    }

-- ---- texts

-- one more than a number, 0 for none
abbrev spelling : Option ℕ → ℕ
spelling (Some n) = 1 + n
spelling None = 0

abbrev front : List ℕ → ℕ
front l = get_or l 0 0

pub of_parse : OfParse
unfolding find_of parts_of rest_of part_of counted_of longer_by spelled fitting decimal_of joined pairs_of bytes_of put_of dec_lt dec_le ℕ_discrete
of_parse =
    record {
      find_one_too_far = λ e. other e tt;
      find_past_the_end = λ e. other e tt;
      parts_by_other_bytes = λ e. other e tt;
      part_after_the_asked = λ e. apart front e tt;
      same_by_length = λ e. apart front e tt;
      short_of_the_most = λ e. apart spelling e tt;
      low_digit_first = λ e. apart front e tt;
      name_of_none = λ h. apart front (h.found (omega arith)) tt;
    }

pub of_text : OfText
unfolding put_over put_to next_text form_text hex_text digits decimal dec_lt dec_le ℕ_discrete
of_text =
    record {
      just_fits_left_out = λ e. other e tt;
      place_after_none = λ e. other e tt;
      ten_as_one_digit = λ e. other e tt;
      no_room_for_a_digit = λ e. apart front e tt;
      nothing_for_zero = λ e. other e tt;
      half_a_pair = λ e. apart front e tt;
      form_left_out = λ e. other e tt;
      hex_of_none = λ e. other e tt;
    }

pub of_report : OfReport
unfolding digits decimal dec_lt
of_report =
    record {
      one_byte_too_short = λ f b r x h l e.
          apart outcome_number (sym ((order.files.reporting f b r x h).present (omega arith)) ∙ ap check_outcome e) tt;
      sixteen_for_every_buffer = λ f b r x h l e.
          apart outcome_number (sym ((order.files.reporting f b r x h).absent (λ s. let z : ⊥ = omega arith in z)) ∙ ap check_outcome e) tt;
      place_left_out = λ f e h. apart (λ (l : List ℕ). get_or l 10 0) (text_once f _ _ h (unread (refusal.SessionLimits 1) e)) tt;
      count_and_round_swapped = λ h. apart (λ (l : List ℕ). get_or l 9 0) (text_once p3_file _ _ h reports.p3) tt;
      no_newline_at_the_end = λ h. apart (λ (l : List ℕ). get_or l 68 0) (text_once p3_file _ _ h reports.p3) tt;
    }

pub of_explain : OfExplain
unfolding spoken sentence digits decimal dec_lt ℕ_discrete
of_explain =
    record {
      layout_said_of_a_clip = λ f e h. apart (λ (l : List ℕ). get_or l 12 0) (said_once f _ _ h (said.unread (refusal.SessionLimits 0) e)) tt;
      session_and_size_swapped = λ h. apart (λ (l : List ℕ). get_or l 7 0) (said_once _ _ _ h sayings.p2) tt;
    }

-- ---- the calls for C

longest : (b : List ℕ) (n : ℕ) (x : List ℕ) → ReportedIs p3_file b n x → n ≡ 594 → ⊥
longest b n x (reported r _ (told t h l)) e = other (sym (ap (λ (u : List ℕ). length u) (text_once p3_file t _ h reports.p3)) ∙ e) tt
longest b n x (reported r _ (short l)) e = other e tt

fifteen : (f : List ℕ) (b : Slices) (r : ℕ) (x : Slices) → DecidedIs f b r x → length b.counts ≡ 15 → r ≡ 0 → ⊥
fifteen f b r x (answers.short n) l e = other e tt
fifteen f b r x (answers.decided d k h) l e = let c = k.counts in let z : ⊥ = omega arith in z

pub of_chikchiro : OfChikchiro
unfolding over
of_chikchiro =
    record {
      every_text_the_longest = longest;
      fifteen_places = fifteen;
      place_times_sixteen = λ f b r x h k w e.
          other (sym (decided_once f b r _ x _ h (answers.decided (refused_for (refusal.SessionLimits 1)) k (answers.unread _ w))).0 ∙ e) tt;
      overload_as_beyond = λ f b r x h l o e.
          other (sym (ap front (reasoned_once f b r _ x _ h (answers.reasoned (Ok (Some reason.Overload)) l o)).1) ∙ e) tt;
    }
