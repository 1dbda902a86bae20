-- What the calculator says, by citation; the worked texts are computed. Assumes nothing.
use Rattle.std.specs.Prelude.{Ok, Err}
use Prim.Native.Nat.{ℕ, ◌≤◌}
use mathlib.Core.Path.{◌≡◌, refl, sym}
use mathlib.Core.List.{List, []}
use native.Mathlib.Omega.{arith}
use native.Mathlib.Decide.{dec_lt}
use lib.ListN.{length, replicate}
use Rattle.show.specs.declared.Show.{Show}
use Rattle.show.specs.declared.refusal.Refusal.{Refusal}
use Rattle.show.specs.declared.refusal.Refusal.TheVariants.{NoSet}
use Rattle.show.specs.Limits.{ShowWithin}
use Rattle.show.specs.Decisions.{counts?, drive?, layout?, session?}
use Rattle.show.specs.Checks.{show_check, first_below}
use Rattle.show.specs.Lists.{listed, padded}
use Rattle.show.proofs.Shows.{check_within}
use Rattle.cost.specs.Bound.{worst_time, edges, ceil}
use Rattle.cost.specs.Costs.{cost_of}
use Rattle.showfile.specs.Bytes.{word_bytes, half_bytes, four_bytes, row_bytes}
use Rattle.showfile.specs.File.{layout_bytes, session_bytes, trailer_bytes, trailer_for, file_of, zeroed}
use Rattle.showfile.specs.Checks.{note_most}
use Rattle.showfile.specs.declared.Reading.{Reading}
use Rattle.showfile.specs.Answers.{reading, read_of}
use Rattle.showfile_copy.proofs.Trip.{file_read}
use Rattle.theory.specs.Sum.{sum_to}
use Rattle.theory.specs.Shows.{load_of}
use Rattle.verdict.specs.declared.Decision.{Decision}
use Rattle.verdict.specs.Answers.{DecisionIs, set_of}
use Rattle.verdict.proofs.Unused.{alike_decision}
use Rattle.text.specs.Decimal.{digits, decimal}
use Rattle.text.specs.Lines.{refused_text}
use Rattle.text.proofs.Numerals.{decimal_numeral}
use Rattle.report.specs.Text.{session_lines, accepted_text}
use Rattle.report.specs.Answers.{TextIs}
use Rattle.report.proofs.Texts.{told_yes, told_no}
use Rattle.report.proofs.Sizes.{text_most_holds}
use Rattle.promises.specs.Numbers.{X, Z, clip, show_of}
use Rattle.promises.specs.Files.{Shaped}
use Rattle.promises.specs.Reports.{Reports}
use Rattle.promises.proofs.Printed.{read_back}
use Rattle.promises.proofs.Table.{table}
use Rattle.promises.proofs.Trips.{trips}

-- A file that was written of a show is told as the show was decided.
module _ (x : Show) (note : List ℕ) (shaped : Shaped x) (w : ShowWithin x) (h : length note ≤ note_most) (d : Decision) (is : DecisionIs x d) where
  -- what is read of it
  abbrev got : Reading
  got = reading (Ok tt) (zeroed x) (length note)

  as_read : got ≡ read_of (file_of x note)
  as_read = sym (file_read x note shaped.layouts shaped.sessions w h)

  again : DecisionIs (zeroed x) d
  again = alike_decision x (zeroed x) (trips.read_again x note shaped w h).alike d is

  yes_told : d.verdict ≡ Ok tt → TextIs (file_of x note) (accepted_text (load_of (zeroed x)) (set_of d.counts))
  yes_told e = (told_yes (file_of x note) got as_read refl d again e).told

  no_told : (v : Refusal) → d.verdict ≡ Err v → TextIs (file_of x note) (refused_text v)
  no_told v e = told_no (file_of x note) got as_read refl d v again e

pub reports : Reports
unfolding show_check first_below counts? drive? layout? session? dec_lt cost_of worst_time edges ceil sum_to listed padded zeroed file_of digits decimal
    session_lines word_bytes half_bytes four_bytes row_bytes layout_bytes session_bytes trailer_bytes trailer_for
reports =
    record {
      p3_bytes = refl;
      p3 = yes_told (show_of X (replicate 3 clip)) [] (record { layouts = refl; sessions = refl }) (check_within _ refl) (omega arith) _ table.p3.twice refl;
      empty =
          yes_told (show_of X []) [] (record { layouts = refl; sessions = refl }) (check_within _ refl) (omega arith) _
          (table.empty (show_of X []) (check_within _ refl) refl) refl;
      hundred =
          no_told (show_of Z (replicate 10 clip)) [] (record { layouts = refl; sessions = refl }) (check_within _ refl) (omega arith) _
          (table.p6.hundred (λ _. 200000000) (λ i h. omega arith)).answer NoSet refl;
      numbers = decimal_numeral;
      read_back = read_back;
      most = text_most_holds;
    }
