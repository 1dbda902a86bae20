-- `rates_of` fills a row with the rates. Invariant: the first i stand there, zeros above. Assumes nothing.
use Rattle.verdict.specs.Steps.{rates_of}
use Rattle.verdict.proofs.Sets.{Filled}
use Rattle.verdict.proofs.round.rates_of.Given as goal

abbrev pub invariant-loop-i : goal.invariant-loop-i
invariant-loop-i l = Filled l.show (rates_of l.show) l.rates l.i
