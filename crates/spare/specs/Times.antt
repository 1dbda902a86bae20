-- The cycle that a start fixes: docs/RULES.md, section 10.
use Rattle.std.specs.Prelude.{ℕ, true, List}
use Rattle.run.specs.declared.Run.{Run}
use Rattle.run.specs.Run.{playing, left_in}
use Rattle.order.specs.Order.{named}
use Rattle.standing.specs.Times.{place_at}

abbrev pub start_order : Run → List ℕ
start_order r = named (place_at r) (playing r) r.order

-- The cycle is in the order that slack used, at its first session, where an operation is to begin.
unfoldable pub running : Run → Run
running r =
    record {
      show = r.show;
      counts = r.counts;
      states = r.states;
      order = start_order r;
      place = 0;
      left = left_in r.counts (start_order r) 0;
      underway = r.underway;
      started = true;
    }
