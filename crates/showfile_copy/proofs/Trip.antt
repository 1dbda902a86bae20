-- There and back: writing what was read gives the same bytes, and reading what was written gives the same note and show, with zeros in
-- its unused places. Assumes nothing.
use Rattle.std.specs.Prelude.{Ok, Err}
use Prim.Native.Nat.{ℕ, ◌+◌, ◌*◌, ◌≤◌}
use mathlib.Core.Path.{◌≡◌, refl, sym, ap, ◌∙◌}
use mathlib.Core.List.{List, ◌++◌}
use native.Mathlib.Omega.{arith}
use lib.ListN.{length, take, drop, length-append, length-drop, take-append-drop}
use lib.Seq.{drop-drop, take_at, length-take-le}
use Rattle.show.specs.Outcomes.{Check}
use Rattle.show.specs.declared.Show.{Show}
use Rattle.show.specs.declared.refusal.Refusal.{Refusal}
use Rattle.show.specs.declared.refusal.Refusal.TheVariants.{FileLength}
use Rattle.show.specs.Limits.{ShowWithin, no_show}
use Rattle.show.specs.Decisions.{between?}
use Rattle.show.proofs.Checks.{unless_kept}
use Rattle.showfile.specs.declared.Reading.{Reading}
use Rattle.showfile.specs.declared.Written.{Written}
use Rattle.showfile.specs.Bytes.{Bytes}
use Rattle.showfile.specs.File.{trailer_bytes, show_from, trailer_for, file_of, zeroed}
use Rattle.showfile.specs.Checks.{file_least, file_most, note_most, note_length, length_check}
use Rattle.showfile.specs.Answers.{
  reading,
  read_check,
  read_at,
  read_of,
  note_of,
  written,
}
use Rattle.showfile_write.specs.Answers.{room_check, write_check, written_of, buffer_of}
use Rattle.showfile_copy.specs.Trips.{reread_of, copy_check, copied_of, copy_of}
use Rattle.showfile.proofs.Passed.{Framed, framed_check, within_limits}
use Rattle.showfile_write.proofs.Passed.{check_writable, room_left}
use Rattle.showfile.proofs.Readable.{end, last, check_readable, read_within}
use Rattle.showfile.proofs.Sizes.{note_inside}
use Rattle.showfile_write.proofs.Sizes.{file_length}
use Rattle.showfile_write.proofs.Words.{bytes_drop}
use Rattle.showfile_write.proofs.Records.{trailer_back}
use Rattle.showfile_write.proofs.Parts.{trailer_again, rows_again, trailer_read, show_read, zeroed_within}

-- ---- read, then written

-- Writing what was read gives the same bytes.
pub file_written : (f : List ℕ) → Bytes f → (read_of f).check ≡ Ok tt → file_of (read_of f).show (note_of f) ≡ f
file_written f b e =
    let g = check_readable f e in
    let t = last f in
    let n = note_length (end f) t in
    let s = drop n f in
    let size = g.size in
    let far = g.framed.distances in
    let rows : (t.laid + t.playing) * 16 ≤ length s = simp length-drop (omega arith) in
    let to_end : n + (t.laid + t.playing) * 16 ≡ end f = omega arith in
    let twenty : length (drop (end f) f) ≡ 20 = simp length-drop (omega arith) in
    let trailer : trailer_bytes (trailer_for (show_from t s)) ≡ drop (end f) f =
    rw (trailer_again (end f) t s far) (trailer_back (drop (end f) f) twenty (bytes_drop (end f) f b)) in
    let after : drop ((t.laid + t.playing) * 16) s ≡ drop (end f) f =
    drop-drop ((t.laid + t.playing) * 16) n f ∙ ap (λ (j : ℕ). drop j f) to_end in
    rw g.is (rows_again t (take n f) s rows (bytes_drop n f b) (trailer ∙ sym after) ∙ take-append-drop n f)

-- What was read may be written, given room.
pub read_writable :
    (f : List ℕ) → Bytes f → (read_of f).check ≡ Ok tt → (room : ℕ) →
    write_check (read_of f).show (note_of f) room ≡ room_check (length f) room
read_writable f b e room =
    let g = check_readable f e in
    let note : (read_of f).note ≤ note_most = rw g.is g.framed.note in
    let short : length (note_of f) ≤ note_most = rw (length-take-le (read_of f).note f (note_inside f)) note in
    room_left (read_of f).show (note_of f) room (read_within f e) short ∙ ap (λ (s : List ℕ). room_check (length s) room) (file_written f b e)

-- ---- written, then read

-- Reading what was written gives the same note and show, unused places zero.
pub file_read :
    (x : Show) (note : List ℕ) → length x.layouts ≡ 8 → length x.sessions ≡ 16 → ShowWithin x → length note ≤ note_most →
    read_of (file_of x note) ≡ reading (Ok tt) (zeroed x) (length note)
unfolding read_of read_at read_check trailer_for
file_read x note hl hs w h =
    let f = file_of x note in
    let at = length note + 16 * (x.laid + x.playing) in
    let counts = w.counts in
    let laid : x.laid ≤ length x.layouts = omega arith in
    let playing : x.playing ≤ length x.sessions = omega arith in
    let size : length f ≡ at + 20 = file_length x note laid playing in
    let end_at : end f ≡ at = omega arith in
    let note_at : note_length at (trailer_for x) ≡ length note = omega arith in
    let framed : Framed at (trailer_for x) =
    record { counts = w.counts; distances = record { far = refl; near = refl; inside = omega arith }; note = omega arith } in
    let sized : length_check (length f) ≡ Ok tt =
    unless_kept (between? file_least (length f) file_most) FileLength (record { low = omega arith; high = omega arith }) in
    rw (
      end_at,
      trailer_read x laid playing w note,
      note_at,
      show_read x laid playing w note,
      sized,
      framed_check at (trailer_for x) framed,
      within_limits (zeroed x) (zeroed_within x laid playing w),
    )

pub note_read :
    (x : Show) (note : List ℕ) → length x.layouts ≡ 8 → length x.sessions ≡ 16 → ShowWithin x → length note ≤ note_most →
    note_of (file_of x note) ≡ note
unfolding file_of
note_read x note hl hs w h = rw (file_read x note hl hs w h) (take_at note _ (length note) refl)

-- ---- there and back in one call, by what its first half answered

pub written_check : (c : Check) (n : ℕ) → (written c n).check ≡ c
written_check (Ok tt) n = refl
written_check (Err w) n = refl

module _ (x : Show) (note b : List ℕ) {r : Written} {b' : List ℕ} (wrote : r ≡ written_of x note (length b)) (left : b' ≡ buffer_of x note b) where
  told : r.check ≡ write_check x note (length b)
  unfolding written_of
  told = ap (λ (a : Written). a.check) wrote ∙ written_check (write_check x note (length b)) (length (file_of x note))

  pub reread_refused : {w : Refusal} → r.check ≡ Err w → reading (Err w) no_show 0 ≡ reread_of x note (length b)
  unfolding reread_of
  reread_refused e = rw (sym told ∙ e)

  module _ (good : r.check ≡ Ok tt) where
    size : r.len ≡ length (file_of x note)
    unfolding written_of
    size = ap (λ (a : Written). a.len) wrote ∙ rw (sym told ∙ good)

    filed : b' ≡ file_of x note ++ drop (length (file_of x note)) b
    unfolding buffer_of
    filed = left ∙ rw (sym told ∙ good)

    -- what was written lies in the buffer
    pub reread_inside : r.len ≤ length b'
    reread_inside = rw (size, filed, length-append) (omega arith)

    pub reread_answers : length x.layouts ≡ 8 → length x.sessions ≡ 16 → read_of (take r.len b') ≡ reread_of x note (length b)
    unfolding reread_of
    reread_answers hl hs =
        let may : write_check x note (length b) ≡ Ok tt = sym told ∙ good in
        let w = check_writable x note (length b) may in
        let f = file_of x note in
        rw (size, filed, take_at f (drop (length f) b) (length f) refl, may) (file_read x note hl hs w.within w.short)

module _ (f b : List ℕ) {r : Reading} (got : r ≡ read_of f) where
  pub copy_refused :
      {a : Written} {w : Refusal} → a ≡ written (Err w) 0 → r.check ≡ Err w → (a ≡ copied_of f (length b)) × (b ≡ copy_of f b)
  unfolding copied_of copy_of copy_check
  copy_refused none e = (rw (none, ← got, e), rw (← got, e))

  pub copy_answers :
      Bytes f → r.check ≡ Ok tt → {a : Written} {b' : List ℕ} → a ≡ written_of r.show (take r.note f) (length b) →
      b' ≡ buffer_of r.show (take r.note f) b → (a ≡ copied_of f (length b)) × (b' ≡ copy_of f b)
  unfolding written_of buffer_of copied_of copy_of copy_check
  copy_answers bytes e wrote left =
      let good : (read_of f).check ≡ Ok tt = rw (← got) e in
      let may = read_writable f bytes good (length b) in
      let same = file_written f bytes good in
      (rw (wrote, got, may, same, good), rw (left, got, may, same, good))
