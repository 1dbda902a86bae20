-- What a valid show is: docs/RULES.md, section 2.
use Rattle.std.specs.Prelude.{ℕ, ◌%◌, ◌≤◌, ◌<◌, ◌≡◌, Bool, true, false, get_or, replicate}
use Rattle.show.specs.declared.Drive.{Drive}
use Rattle.show.specs.declared.Layout.{Layout}
use Rattle.show.specs.declared.Session.{Session}
use Rattle.show.specs.declared.Show.{Show}

-- What a test tells of a statement: true that it holds, false that it does not.
abbrev pub Tells : Bool → Type 0 → Type 0
Tells true p = p
Tells false p = p → ⊥

-- least to most
pub record Between (least x most : ℕ) : Type 0 where
  pub low : least ≤ x
  pub high : x ≤ most

-- Limits that are cited elsewhere have a name: the smallest block and the largest, ..
abbrev pub block_least : ℕ
block_least = 512

abbrev pub block_most : ℕ
block_most = 65536

-- .. the highest rate, the largest buffer.
abbrev pub rate_most : ℕ
rate_most = 100000000

abbrev pub buffer_most : ℕ
buffer_most = 1073741824

-- Drive: block size A, 512 to 65,536 and a multiple of 512; N blocks per cylinder, 1 to 65,536.
pub record DriveWithin (d : Drive) : Type 0 where
  pub block : Between block_least d.block block_most
  pub whole : d.block % 512 ≡ 0
  pub cylinder : Between 1 d.cylinder 65536

-- Layout: longest seek 0 to 1,000,000 µs; one-track seek, 0 to the longest seek; block time 1 to 1,000,000; rotation 0 to 1,000,000.
pub record LayoutWithin (y : Layout) : Type 0 where
  pub longest : y.longest ≤ 1000000
  pub track : y.track ≤ y.longest
  pub time : Between 1 y.time 1000000
  pub rotation : y.rotation ≤ 1000000

-- Session: rate R 1 to 100,000,000 bytes/s; cushion Y 1 to 16,777,216; buffer B 1 to 1,073,741,824; layout number below the layout count.
pub record SessionWithin (laid : ℕ) (x : Session) : Type 0 where
  pub rate : Between 1 x.rate rate_most
  pub cushion : Between 1 x.cushion 16777216
  pub buffer : Between 1 x.buffer buffer_most
  pub layout : x.layout < laid

-- 1 to 8 layouts, 0 to 16 sessions.
pub record CountsWithin (laid playing : ℕ) : Type 0 where
  pub layouts : Between 1 laid 8
  pub sessions : playing ≤ 16

-- What stands at a place; past the last place, zeros.
abbrev pub no_layout : Layout
no_layout = record { longest = 0; track = 0; time = 0; rotation = 0 }

abbrev pub no_session : Session
no_session = record { rate = 0; cushion = 0; buffer = 0; layout = 0 }

-- zeros throughout
abbrev pub no_show : Show
no_show =
    record {
      drive = record { block = 0; cylinder = 0 };
      layouts = replicate 8 no_layout;
      laid = 0;
      sessions = replicate 16 no_session;
      playing = 0;
    }

abbrev pub layout_at : Show → ℕ → Layout
layout_at s i = get_or s.layouts i no_layout

abbrev pub session_at : Show → ℕ → Session
session_at s i = get_or s.sessions i no_session

-- The layout, and the session, at a place is within its limits.
abbrev pub LaidWithin : Show → ℕ → Type 0
LaidWithin s i = LayoutWithin (layout_at s i)

abbrev pub PlayingWithin : Show → ℕ → Type 0
PlayingWithin s i = SessionWithin s.laid (session_at s i)

-- A show within every limit. Places above a count are not looked at.
pub record ShowWithin (s : Show) : Type 0 where
  pub counts : CountsWithin s.laid s.playing
  pub drive : DriveWithin s.drive
  pub layouts : (i : ℕ) → i < s.laid → LaidWithin s i
  pub sessions : (i : ℕ) → i < s.playing → PlayingWithin s i

-- Two shows that agree below their counts.
pub record Alike (s t : Show) : Type 0 where
  pub drive : s.drive ≡ t.drive
  pub laid : s.laid ≡ t.laid
  pub playing : s.playing ≡ t.playing
  pub layouts : (i : ℕ) → i < s.laid → layout_at s i ≡ layout_at t i
  pub sessions : (i : ℕ) → i < s.playing → session_at s i ≡ session_at t i
