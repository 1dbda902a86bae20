-- `added` works out the time of each count. Invariant: the times of the first i sessions stand there. Assumes nothing.
use Rattle.theory.specs.Shows.{load_of}
use Rattle.verdict.specs.Answers.{set_of}
use Rattle.verdict.proofs.Sets.{TimedTo}
use Rattle.trial.proofs.added.Given as goal

abbrev pub invariant-loop-i : goal.invariant-loop-i
invariant-loop-i l = TimedTo l.show (λ k. ((load_of l.show).stream k).time (set_of l.counts k)) l.round l.times l.i
