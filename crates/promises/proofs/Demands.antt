-- The three demands, by citation. Assumes nothing.
use mathlib.Core.Path.{sym, ◌∙◌}
use Rattle.show.proofs.Checks.{tells_once}
use Rattle.showfile_write.proofs.Records.{words_once, from_once}
use Rattle.verdict.proofs.Once.{decision_once}
use Rattle.trial.proofs.Once.{trial_once}
use Rattle.run.proofs.Opening.{open_once}
use Rattle.reason.proofs.Once.{reason_once}
use Rattle.report.proofs.Texts.{text_once}
use Rattle.report.proofs.Reports.{report_once}
use Rattle.explain.proofs.Texts.{said_once}
use Rattle.explain.proofs.Explained.{explain_once}
use Rattle.chikchiro.proofs.Once.{reported_once, decided_once, reasoned_once}
use Rattle.promises.specs.Demands.{Demands}
use Rattle.parse.proofs.Places.{place_once}
use Rattle.promises.proofs.Table.{table}
use Rattle.promises.proofs.Trips.{trips}
use Rattle.promises.proofs.Verdict.{verdicts}
use Rattle.promises.proofs.Lighter.{lighter_shows}
use Rattle.promises.proofs.LighterRuns.{lighter_runs}
use Rattle.promises.proofs.Reports.{reports}
use Rattle.promises.proofs.Reasons.{reasons}
use Rattle.promises.proofs.Sayings.{sayings}
use Rattle.promises.proofs.Runs.{hands_back, runs}
use Rattle.promises.proofs.Numbered.{numbered}
use Rattle.promises.proofs.Answered.{answered}
use Rattle.promises.proofs.Only.{only}
use Rattle.promises.proofs.Order.{order}
use Rattle.promises.proofs.Refusals.{buffers, empty}
use Rattle.promises.proofs.Embedded.{embedded}
use Rattle.promises.proofs.SpareTime.{spare_time}
use Rattle.promises.proofs.Unseen.{unseen}
use Rattle.promises.proofs.RuledOut.{ruled_out}

pub demands : Demands
demands =
    record {
      first =
          record {
            answered = answered;
            numbered = numbered;
            only = only;
            order = order;
            runs = hands_back;
            buffers = buffers;
            empty = empty;
            embedded = embedded;
          };
      second =
          record {
            verdicts = verdicts;
            runs = runs;
            unseen = unseen;
            spare = spare_time;
            table = table;
            reports = reports;
            reasons = reasons;
            sayings = sayings;
            trips = trips;
          };
      third = record { lighter = lighter_shows; lighter_runs = lighter_runs };
      once =
          record {
            equation = λ meaning x y p q. p ∙ sym q;
            test = tells_once;
            place = place_once;
            from_words = from_once;
            words = words_once;
            decision = decision_once;
            trial = trial_once;
            opening = open_once;
            report = report_once;
            text = text_once;
            reason = reason_once;
            explain = explain_once;
            said = said_once;
            reported = reported_once;
            decided = decided_once;
            reasoned = reasoned_once;
          };
      ruled_out = ruled_out;
    }
