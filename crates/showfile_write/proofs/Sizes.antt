-- How long the parts of a file are. Assumes nothing.
use Prim.Native.Nat.{ℕ, ◌+◌, ◌*◌, ◌≤◌}
use mathlib.Core.Path.{◌≡◌, refl}
use mathlib.Core.List.{List}
use native.Mathlib.Omega.{arith}
use lib.ListN.{length, take, length-append}
use Rattle.show.specs.declared.Layout.{Layout}
use Rattle.show.specs.declared.Session.{Session}
use Rattle.show.specs.declared.Show.{Show}
use Rattle.show.specs.Limits.{CountsWithin}
use Rattle.showfile.specs.declared.trailer.Trailer.{Trailer}
use Rattle.showfile.specs.Bytes.{word_bytes, half_bytes, row_bytes}
use Rattle.showfile.specs.File.{layout_bytes, session_bytes, trailer_bytes, file_of}
use Rattle.showfile_write.proofs.ByteLaws.{four_length}
use Rattle.showfile_write.proofs.RowLaws.{taken_length}

pub layout_length : (y : Layout) → length (layout_bytes y) ≡ 16
unfolding layout_bytes
layout_length y = four_length y.longest y.track y.time y.rotation

pub session_length : (x : Session) → length (session_bytes x) ≡ 16
unfolding session_bytes
session_length x = four_length x.rate x.cushion x.buffer x.layout

pub trailer_length : (t : Trailer) → length (trailer_bytes t) ≡ 20
unfolding trailer_bytes word_bytes half_bytes
trailer_length t = refl

pub layouts_length : (x : Show) → x.laid ≤ length x.layouts → length (row_bytes layout_bytes (take x.laid x.layouts)) ≡ x.laid * 16
layouts_length x h = taken_length layout_bytes layout_length x.laid x.layouts h

pub sessions_length :
    (x : Show) → x.playing ≤ length x.sessions → length (row_bytes session_bytes (take x.playing x.sessions)) ≡ x.playing * 16
sessions_length x h = taken_length session_bytes session_length x.playing x.sessions h

pub file_length :
    (x : Show) (note : List ℕ) → x.laid ≤ length x.layouts → x.playing ≤ length x.sessions →
    length (file_of x note) ≡ length note + 16 * (x.laid + x.playing) + 20
unfolding file_of
file_length x note hl hs = simp (length-append, layouts_length x hl, sessions_length x hs, trailer_length) (omega arith)

-- of a show as a program holds it
pub shown_length :
    (x : Show) (note : List ℕ) → length x.layouts ≡ 8 → length x.sessions ≡ 16 → CountsWithin x.laid x.playing →
    length (file_of x note) ≡ length note + 16 * (x.laid + x.playing) + 20
shown_length x note hl hs c = file_length x note (omega arith) (omega arith)
