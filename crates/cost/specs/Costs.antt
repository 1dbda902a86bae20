-- What a session's operations cost.
use Rattle.std.specs.Prelude.{ℕ, ◌+◌, ◌*◌}
use Rattle.show.specs.declared.Layout.{Layout}
use Rattle.show.specs.declared.Show.{Show}
use Rattle.show.specs.Limits.{layout_at, session_at}
use Rattle.cost.specs.declared.Cost.{Cost}

-- A read: longest seek and twice the rotation once, the block time for each block, the one-track seek for each edge.
abbrev pub read_cost : Layout → Cost
read_cost y = record { fixed = y.longest + 2 * y.rotation; each = y.time; cross = y.track }

-- A session's operations are reads on its layout.
unfoldable pub cost_of : Show → ℕ → Cost
cost_of s i = read_cost (layout_at s (session_at s i).layout)
