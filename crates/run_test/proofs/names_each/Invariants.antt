-- `names_each` tells whether an order names each session once: the first places do, and are marked. Assumes nothing.
use Rattle.run_test.proofs.Named.{NamedTo}
use Rattle.run_test.proofs.names_each.Given as goal

abbrev pub invariant-loop-session : goal.invariant-loop-session
invariant-loop-session l = NamedTo l.fn.order l.playing l.named l.session-index
