-- `accepted` answers what a settled time asks for, with the times. Invariant: the counts and the times of the first i sessions stand
-- there. Assumes nothing.
use Rattle.theory.specs.Rounds.{asked}
use Rattle.theory.specs.Shows.{load_of}
use Rattle.verdict.proofs.Sets.{Filled, TimedTo}
use Rattle.verdict.proofs.accepted.Given as goal

abbrev pub invariant-loop-i : goal.invariant-loop-i
invariant-loop-i l = (Filled l.show (asked (load_of l.show) l.t) l.counts l.i)
    × (TimedTo l.show (λ k. ((load_of l.show).stream k).time (asked (load_of l.show) l.t k)) l.round l.times l.i)
