-- What the private functions ask and answer.
use Rattle.std.specs.Prelude.{ℕ, ◌*◌, ◌/◌, ◌%◌, ◌≤◌, ◌<◌}
use Rattle.show.specs.declared.Session.{Session}
use Rattle.show.specs.declared.Show.{Show}
use Rattle.show.specs.Limits.{session_at, no_session, rate_most, buffer_most}
use Rattle.show.specs.Lists.{listed, padded}
use Rattle.cost.specs.Bound.{each_most, cross_most}
use Rattle.cost.specs.Costs.{cost_of}
use Rattle.theory.specs.Sum.{sum_to}
use Rattle.theory.specs.Counts.{Load, unit, whole_load}
use Rattle.reason.specs.declared.work.Sums.{Sums}
use Rattle.reason.specs.declared.work.Work.{Work}

-- a session with the largest buffer that there is
abbrev pub roomy : Session → Session
roomy x = record { rate = x.rate; cushion = x.cushion; buffer = buffer_most; layout = x.layout }

-- a show of such sessions
abbrev pub widest_of : Show → Show
widest_of s =
    record {
      drive = s.drive;
      layouts = s.layouts;
      laid = s.laid;
      sessions = padded 16 no_session (listed (λ i. roomy (session_at s i)) s.playing);
      playing = s.playing;
    }

-- R x block time, and R x one-track seek, of a session
abbrev pub blocks_at : Show → ℕ → ℕ
blocks_at s i = (session_at s i).rate * (cost_of s i).each

abbrev pub edges_at : Show → ℕ → ℕ
edges_at s i = (session_at s i).rate * (cost_of s i).cross

abbrev pub sums_of : Show → Sums
sums_of s = record { blocks = sum_to (blocks_at s) s.playing; edges = sum_to (edges_at s) s.playing }

pub record SumsSmall (x : Sums) : Type 0 where
  pub blocks : x.blocks ≤ 16 * (rate_most * each_most)
  pub edges : x.edges ≤ 16 * (rate_most * cross_most)

-- The load in units of N x A x 1,000,000.
abbrev pub work_of : Load → Work
work_of l =
    record {
      full = l.cylinder * unit l;
      whole = whole_load l / (l.cylinder * unit l);
      part = whole_load l % (l.cylinder * unit l);
    }

-- A thousand times each fits 64 bits.
pub record WorkSmall (x : Work) : Type 0 where
  pub some : 1 ≤ x.full
  pub whole : x.whole ≤ 11000000000000000
  pub part : x.part < x.full
  pub full : x.full ≤ 4294967296000000
