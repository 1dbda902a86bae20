-- Two numbers among words. Assumes nothing.
use Rattle.text.proofs.Puts.{room_put}
use Rattle.explain.proofs.line.put_load.Goals as goal

pub returns : goal.returns
returns c =
    room_put c.requires c.put_paired.ensures.out_after c.put_paired.ensures.value
