-- A show as a load; and shows made lighter, each a changed copy of a show.
use Rattle.std.specs.Prelude.{ℕ, ◌+◌, ◌-◌, ◌≤◌, ◌<◌, ◌≡◌, ◌∷◌, [], ◌++◌, length, take, drop}
use Rattle.std.proofs.Math.Logic.{ite}
use Rattle.std.proofs.Math.Decide.{dec_lt}
use Rattle.show.specs.declared.Layout.{Layout}
use Rattle.show.specs.declared.Show.{Show}
use Rattle.show.specs.Limits.{layout_at, session_at, no_session}
use Rattle.cost.specs.Bound.{worst_time, weight, surplus_of}
use Rattle.cost.specs.Costs.{cost_of}
use Rattle.theory.specs.Counts.{Stream, Load}

-- A session, and a show, as the verdict sees them.
abbrev pub stream_of : Show → ℕ → Stream
stream_of s i =
    record {
      rate = (session_at s i).rate;
      cushion = (session_at s i).cushion;
      buffer = (session_at s i).buffer;
      time = worst_time s.drive.cylinder (cost_of s i);
      weight = weight s.drive.cylinder (cost_of s i);
      surplus = surplus_of s.drive.cylinder (cost_of s i);
    }

abbrev pub load_of : Show → Load
load_of s =
    record {
      block = s.drive.block;
      cylinder = s.drive.cylinder;
      playing = s.playing;
      stream = stream_of s;
    }

-- No time of a layout longer.
pub record Quicker (x y : Layout) : Type 0 where
  pub longest : x.longest ≤ y.longest
  pub track : x.track ≤ y.track
  pub time : x.time ≤ y.time
  pub rotation : x.rotation ≤ y.rotation

-- A session of a is no harder than one of b: no rate, cushion or time larger, no smaller a buffer.
pub record Easier (a b : Show) (i j : ℕ) : Type 0 where
  pub rate : (session_at a i).rate ≤ (session_at b j).rate
  pub cushion : (session_at a i).cushion ≤ (session_at b j).cushion
  pub buffer : (session_at b j).buffer ≤ (session_at a i).buffer
  pub layout : Quicker (layout_at a (session_at a i).layout) (layout_at b (session_at b j).layout)

-- Lightened in place: the same drive and sessions, each no harder.
pub record Eased (a b : Show) : Type 0 where
  pub drive : a.drive ≡ b.drive
  pub playing : a.playing ≡ b.playing
  pub session : (i : ℕ) → i < a.playing → Easier a b i i

-- Session k left out: those after it move down by one, and the last place is empty.
abbrev pub without : ℕ → Show → Show
without k s =
    record {
      drive = s.drive;
      layouts = s.layouts;
      laid = s.laid;
      sessions = take k s.sessions ++ (drop (k + 1) s.sessions ++ (no_session ∷ []));
      playing = s.playing - 1;
    }

-- Where session i stood before session k went.
unfoldable pub stood_at : ℕ → ℕ → ℕ
stood_at k i = ite (dec_lt i k) i (i + 1)

-- Made lighter, one change after another; session i of the first show is session e i of the second.
pub data Lightened : Show → Show → (ℕ → ℕ) → Type 0 where
  eased : {a b : Show} → Eased a b → Lightened a b (λ i. i)
  left_out : {b : Show} (k : ℕ) → k < b.playing → b.playing ≤ length b.sessions → Lightened (without k b) b (stood_at k)
  then : {a b c : Show} {e f : ℕ → ℕ} → Lightened a b e → Lightened b c f → Lightened a c (λ i. f (e i))
