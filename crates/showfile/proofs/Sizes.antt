-- A note is a part of its file. Assumes nothing.
use Rattle.std.specs.Prelude.{Ok, Err}
use Prim.Native.Nat.{ℕ, ◌-◌, ◌≤◌}
use mathlib.Core.Path.{◌≡◌, sym}
use mathlib.Core.List.{List}
use native.Mathlib.Omega.{arith}
use lib.ListN.{length, take, drop}
use lib.Seq.{length-take-le}
use Rattle.show.specs.Outcomes.{Check}
use Rattle.show.specs.declared.Show.{Show}
use Rattle.showfile.specs.declared.Reading.{Reading}
use Rattle.showfile.specs.File.{trailer_of}
use Rattle.showfile.specs.Checks.{note_length}
use Rattle.showfile.specs.Answers.{reading, shown_at, read_check, read_at, read_of}

note_least : (c : Check) (x : Show) (n m : ℕ) → n ≤ m → (reading c x n).note ≤ m
note_least (Ok tt) x n m h = h
note_least (Err w) x n m h = omega arith

pub note_inside : (f : List ℕ) → (read_of f).note ≤ length f
unfolding read_of read_at
note_inside f =
    let at = length f - 20 in
    let t = trailer_of (drop at f) in
    note_least (read_check f at t) (shown_at f at t) (note_length at t) (length f) (omega arith)

-- a reading's note, as a part of its file
pub note_part : (f : List ℕ) {r : Reading} → r ≡ read_of f → r.note ≡ length (take r.note f)
note_part f {r} e = let inside : r.note ≤ length f = rw e (note_inside f) in sym (length-take-le r.note f inside)
