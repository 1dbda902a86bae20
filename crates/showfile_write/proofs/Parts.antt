-- The parts of a file, there and back: its trailer, its rows, and the show that they make. Assumes nothing.
use Prim.Native.Nat.{ℕ, ◌+◌, ◌*◌, ◌-◌, ◌≤◌, ◌<◌}
use mathlib.Core.Path.{◌≡◌, refl, sym, ap, ◌∙◌}
use mathlib.Core.List.{List, ◌++◌, append_assoc}
use native.Mathlib.Omega.{arith}
use lib.ListN.{length, take, drop, get_or, replicate, length-append, length-drop, get_or-append}
use lib.Seq.{drop-drop, drop_at, take_at, get_or-take, length-take-le}
use Rattle.show.specs.declared.Show.{Show}
use Rattle.show.specs.Limits.{LayoutWithin, SessionWithin, ShowWithin, Alike, no_layout, no_session}
use Rattle.show.proofs.Shows.{check_within, within_check, alike_check}
use Rattle.showfile.specs.declared.trailer.Trailer.{Trailer}
use Rattle.show.specs.Lists.{padded}
use Rattle.showfile.specs.Bytes.{Bytes, row_of, row_bytes}
use Rattle.showfile.specs.File.{
  layout_of,
  layout_bytes,
  session_of,
  session_bytes,
  trailer_of,
  trailer_bytes,
  show_from,
  trailer_for,
  file_of,
  zeroed,
}
use Rattle.showfile.specs.Checks.{Distanced}
use Rattle.showfile.proofs.RowLaws.{row_length}
use Rattle.showfile_write.proofs.Sizes.{layout_length, session_length, layouts_length, sessions_length}
use Rattle.showfile_write.proofs.Words.{bytes_drop, row_there, row_back}
use Rattle.showfile_write.proofs.Records.{layout_there, session_there, trailer_there, layout_back, session_back}

-- ---- read, then written

pub trailer_again : (at : ℕ) (t : Trailer) (s : List ℕ) → Distanced at t → trailer_for (show_from t s) ≡ t
unfolding trailer_for show_from
trailer_again at t s d = rw (← d.far, ← d.near)

padded_front : {A : Type 0} (k : ℕ) (z : A) (l : List A) (n : ℕ) → length l ≡ n → take n (padded k z l) ≡ l
unfolding padded
padded_front k z l n e = take_at l (replicate (k - length l) z) n e

-- the file of a show that was read from bytes s, with the trailer t
pub rows_again :
    (t : Trailer) (note s : List ℕ) → (t.laid + t.playing) * 16 ≤ length s → Bytes s →
    trailer_bytes (trailer_for (show_from t s)) ≡ drop ((t.laid + t.playing) * 16) s → file_of (show_from t s) note ≡ note ++ s
unfolding file_of show_from
rows_again t note s h b e =
    let l = t.laid in
    let n = t.playing in
    let d = drop (l * 16) s in
    let rest : n * 16 ≤ length d = simp length-drop (omega arith) in
    let k : l * 16 + n * 16 ≡ (l + n) * 16 = omega arith in
    let tl : take l (padded 8 no_layout (row_of layout_of l s)) ≡ row_of layout_of l s = padded_front _ _ _ l (row_length layout_of l s) in
    let ts : take n (padded 16 no_session (row_of session_of n d)) ≡ row_of session_of n d = padded_front _ _ _ n (row_length session_of n d) in
    let el : row_bytes layout_bytes (row_of layout_of l s) ++ d ≡ s = row_back layout_of layout_bytes layout_back l s (omega arith) b in
    let es : row_bytes session_bytes (row_of session_of n d) ++ drop (n * 16) d ≡ d =
    row_back session_of session_bytes session_back n d rest (bytes_drop (l * 16) s b) in
    let et : drop (n * 16) d ≡ drop ((l + n) * 16) s = drop-drop (n * 16) (l * 16) s ∙ ap (λ (j : ℕ). drop j s) k in
    rw (tl, ts, e, ← et, es, el)

-- ---- written, then read

padded_at :
    {A : Type 0} (k : ℕ) (z : A) (l : List A) (n i : ℕ) → n ≤ length l → i < n → get_or (padded k z (take n l)) i z ≡ get_or l i z
unfolding padded
padded_at k z l n i h m =
    let inside : i < length (take n l) = omega (arith, length-take-le n l h) in
    rw (get_or-append, get_or-take)

-- zeros in the unused places leave the same show
pub zeroed_alike : (x : Show) → x.laid ≤ length x.layouts → x.playing ≤ length x.sessions → Alike x (zeroed x)
unfolding zeroed
zeroed_alike x hl hs =
    record {
      drive = refl;
      laid = refl;
      playing = refl;
      layouts = λ i l. sym (padded_at 8 no_layout x.layouts x.laid i hl l);
      sessions = λ i l. sym (padded_at 16 no_session x.sessions x.playing i hs l);
    }

module _ (x : Show) (hl : x.laid ≤ length x.layouts) (hs : x.playing ≤ length x.sessions) (w : ShowWithin x) where
  pub trailer_read :
      (note : List ℕ) → trailer_of (drop (length note + 16 * (x.laid + x.playing)) (file_of x note)) ≡ trailer_for x
  unfolding file_of
  trailer_read note =
      let layouts = row_bytes layout_bytes (take x.laid x.layouts) in
      let sessions = row_bytes session_bytes (take x.playing x.sessions) in
      let t = trailer_bytes (trailer_for x) in
      let front : length (note ++ layouts ++ sessions) ≡ length note + 16 * (x.laid + x.playing) =
      simp length-append (omega (arith, layouts_length x hl, sessions_length x hs)) in
      let flat : note ++ (layouts ++ (sessions ++ t)) ≡ note ++ layouts ++ sessions ++ t = simp append_assoc in
      rw (flat, drop_at (note ++ layouts ++ sessions) t (length note + 16 * (x.laid + x.playing)) front)
      (trailer_there x w.drive w.counts)

  pub show_read : (note : List ℕ) → show_from (trailer_for x) (drop (length note) (file_of x note)) ≡ zeroed x
  unfolding trailer_for show_from zeroed file_of
  show_read note =
      let layouts = row_bytes layout_bytes (take x.laid x.layouts) in
      let sessions = row_bytes session_bytes (take x.playing x.sessions) in
      let t = trailer_bytes (trailer_for x) in
      rw (
        drop_at note (layouts ++ (sessions ++ t)) (length note) refl,
        row_there layout_of layout_bytes layout_length no_layout LayoutWithin
            layout_there x.laid x.layouts (sessions ++ t) hl w.layouts,
        drop_at layouts (sessions ++ t) (x.laid * 16) (layouts_length x hl),
        row_there session_of session_bytes session_length no_session (SessionWithin x.laid)
            (session_there x.laid w.counts.layouts.high) x.playing x.sessions t hs w.sessions,
      )

  pub zeroed_within : ShowWithin (zeroed x)
  zeroed_within = check_within (zeroed x) (sym (alike_check x (zeroed x) (zeroed_alike x hl hs)) ∙ within_check x w)
