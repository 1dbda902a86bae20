-- Four numbers, one after the other. Assumes nothing.
use mathlib.Core.List.{◌++◌}
use Rattle.text.specs.Lines.{spaced, ended}
use Rattle.text.proofs.Puts.{room_put, answer_then}
use Rattle.report.proofs.put_four.Goals as goal

pub returns : goal.returns
returns c =
    answer_then (spaced c.args.a) (spaced c.args.b ++ (spaced c.args.c ++ ended c.args.d)) c.requires
    (c.put_numbered-second.ensures.out_after, c.put_numbered-second.ensures.value) c.put_numbered-second.auto.out
    (λ r. answer_then (spaced c.args.b) (spaced c.args.c ++ ended c.args.d) r
    (c.put_numbered-third.ensures.out_after, c.put_numbered-third.ensures.value) c.put_numbered-third.auto.out
    (λ t. answer_then (spaced c.args.c) (ended c.args.d) t (c.put_numbered-fourth.ensures.out_after, c.put_numbered-fourth.ensures.value)
    c.put_numbered-fourth.auto.out (λ u. room_put u c.put_numbered.ensures.out_after c.put_numbered.ensures.value)))
