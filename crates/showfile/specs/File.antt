-- What the bytes of a show file mean, and the bytes of a show: docs/RULES.md, section 6.
use Rattle.std.specs.Prelude.{ℕ, ◌+◌, ◌*◌, List, ◌++◌, take, drop}
use Rattle.show.specs.declared.Layout.{Layout}
use Rattle.show.specs.declared.Session.{Session}
use Rattle.show.specs.declared.Show.{Show}
use Rattle.show.specs.Limits.{no_layout, no_session}
use Rattle.showfile.specs.declared.trailer.Trailer.{Trailer}
use Rattle.show.specs.Lists.{padded}
use Rattle.showfile.specs.Bytes.{half_of, word_of, half_bytes, word_bytes, four_bytes, row_of, row_bytes}

-- a layout: longest seek, one-track seek, block time, rotation
unfoldable pub layout_of : List ℕ → Layout
layout_of s = record { longest = word_of s; track = word_of (drop 4 s); time = word_of (drop 8 s); rotation = word_of (drop 12 s) }

unfoldable pub layout_bytes : Layout → List ℕ
layout_bytes y = four_bytes y.longest y.track y.time y.rotation

-- a session: R, Y, B, layout number
unfoldable pub session_of : List ℕ → Session
session_of s = record { rate = word_of s; cushion = word_of (drop 4 s); buffer = word_of (drop 8 s); layout = word_of (drop 12 s) }

unfoldable pub session_bytes : Session → List ℕ
session_bytes x = four_bytes x.rate x.cushion x.buffer x.layout

-- the trailer: A, N, layout count, session count, distance back to the first layout, distance back to the first session
unfoldable pub trailer_of : List ℕ → Trailer
trailer_of s =
    record {
      drive = record { block = word_of s; cylinder = word_of (drop 4 s) };
      laid = half_of (drop 8 s);
      playing = half_of (drop 10 s);
      far = word_of (drop 12 s);
      near = word_of (drop 16 s);
    }

unfoldable pub trailer_bytes : Trailer → List ℕ
trailer_bytes t =
    word_bytes t.drive.block
    ++ (word_bytes t.drive.cylinder ++ (half_bytes t.laid ++ (half_bytes t.playing ++ (word_bytes t.far ++ word_bytes t.near))))

-- the show with the trailer t whose first layout is the first of the bytes s; zeros in the unused places
unfoldable pub show_from : Trailer → List ℕ → Show
show_from t s =
    record {
      drive = t.drive;
      layouts = padded 8 no_layout (row_of layout_of t.laid s);
      laid = t.laid;
      sessions = padded 16 no_session (row_of session_of t.playing (drop (t.laid * 16) s));
      playing = t.playing;
    }

-- a show's trailer: the distances are 16(l+s) and 16s
unfoldable pub trailer_for : Show → Trailer
trailer_for x =
    record {
      drive = x.drive;
      laid = x.laid;
      playing = x.playing;
      far = 16 * (x.laid + x.playing);
      near = 16 * x.playing;
    }

-- the file of a show: the note, the layouts, the sessions, the trailer
unfoldable pub file_of : Show → List ℕ → List ℕ
file_of x note =
    note
    ++ (row_bytes layout_bytes (take x.laid x.layouts)
    ++ (row_bytes session_bytes (take x.playing x.sessions) ++ trailer_bytes (trailer_for x)))

-- a show with zeros in its unused places
unfoldable pub zeroed : Show → Show
zeroed x =
    record {
      drive = x.drive;
      layouts = padded 8 no_layout (take x.laid x.layouts);
      laid = x.laid;
      sessions = padded 16 no_session (take x.playing x.sessions);
      playing = x.playing;
    }
