-- `rates_of` fills a row with the rates. Invariant: the first i stand there, zeros above. Assumes nothing.
use mathlib.Core.Path.{refl}
use Rattle.show.proofs.Lists.{filled_none}
use Rattle.verdict.proofs.Sets.{row_begun, row_body, row_ended}
use Rattle.verdict.proofs.round.rates_of.Goals as goal

pub loop-i-init : goal.loop-i-init
loop-i-init c =
    row_begun _ _ _ (filled_none 16 0 _)

pub loop-i-preserved : goal.loop-i-preserved
loop-i-preserved c =
    row_body _ _ _ _ _ c.requires c.loop-i.invariant c.loop-i-test.true refl

pub returns : goal.returns
returns c =
    row_ended _ _ _ _ c.loop-i.invariant c.loop-i-test.false
