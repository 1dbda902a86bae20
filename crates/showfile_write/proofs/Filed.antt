-- The four parts of a file, one after the other in a buffer, and what `write` leaves there. Assumes nothing.
use Rattle.std.specs.Prelude.{Ok, Err}
use Prim.Native.Nat.{ℕ, ◌+◌, ◌*◌, ◌≤◌}
use mathlib.Core.Path.{◌≡◌, ap, ◌∙◌}
use mathlib.Core.List.{List, ◌++◌, append_assoc}
use native.Mathlib.Omega.{arith}
use lib.ListN.{length, take, drop, length-append}
use Rattle.show.specs.declared.Show.{Show}
use Rattle.show.specs.declared.refusal.Refusal.{Refusal}
use Rattle.showfile.specs.declared.Written.{Written}
use Rattle.showfile.specs.Bytes.{row_bytes, over}
use Rattle.showfile.specs.File.{layout_bytes, session_bytes, trailer_bytes, trailer_for, file_of}
use Rattle.showfile.specs.Answers.{written}
use Rattle.showfile_write.specs.Answers.{write_check, written_of, buffer_of}
use Rattle.showfile.proofs.ByteLaws.{over_then, over_front}
use Rattle.showfile_write.proofs.Sizes.{layouts_length, sessions_length, trailer_length, file_length}

module _ (x : Show) (note b : List ℕ) where
  pub file_filed :
      {b₁ b₂ b₃ b₄ : List ℕ} → x.laid ≤ length x.layouts → x.playing ≤ length x.sessions → length (file_of x note) ≤ length b →
      b₁ ≡ over b 0 note →
      b₂ ≡ over b₁ (length note) (row_bytes layout_bytes (take x.laid x.layouts)) →
      b₃ ≡ over b₂ (length note + x.laid * 16) (row_bytes session_bytes (take x.playing x.sessions)) →
      b₄ ≡ over b₃ (length note + x.laid * 16 + x.playing * 16) (trailer_bytes (trailer_for x)) →
      b₄ ≡ file_of x note ++ drop (length (file_of x note)) b
  unfolding file_of
  file_filed laid playing fits e₁ e₂ e₃ e₄ =
      let n = length note in
      let ls = row_bytes layout_bytes (take x.laid x.layouts) in
      let ss = row_bytes session_bytes (take x.playing x.sessions) in
      let t = trailer_bytes (trailer_for x) in
      let size : length (note ++ (ls ++ (ss ++ t))) ≡ n + 16 * (x.laid + x.playing) + 20 = file_length x note laid playing in
      let l₁ : length ls ≡ x.laid * 16 = layouts_length x laid in
      let l₂ : length ss ≡ x.playing * 16 = sessions_length x playing in
      let l₃ : length t ≡ 20 = trailer_length (trailer_for x) in
      let two : length (note ++ ls) ≡ n + x.laid * 16 = length-append note ls ∙ ap (λ (k : ℕ). n + k) l₁ in
      let three : length (note ++ ls ++ ss) ≡ n + x.laid * 16 + x.playing * 16 = length-append (note ++ ls) ss ∙ cc in
      let flat : note ++ ls ++ ss ++ t ≡ note ++ (ls ++ (ss ++ t)) = simp append_assoc in
      over_then b 0 (note ++ ls ++ ss) (n + x.laid * 16 + x.playing * 16) t
      (over_then b 0 (note ++ ls) (n + x.laid * 16) ss (over_then b 0 note n ls e₁ e₂ (omega arith) (omega arith)) e₃ (omega arith)
      (omega arith))
      e₄ (omega arith) (omega arith)
      ∙ ap (λ (s : List ℕ). over b 0 s) flat
      ∙ over_front b (note ++ (ls ++ (ss ++ t)))

  -- what `write` answers and leaves, by its test
  pub filed_refused :
      {a : Written} {w : Refusal} → a ≡ written (Err w) 0 → write_check x note (length b) ≡ Err w →
      (a ≡ written_of x note (length b)) × (b ≡ buffer_of x note b)
  unfolding written_of buffer_of
  filed_refused none e = (rw (none, e), rw e)

  pub filed_within :
      {b' : List ℕ} {n : ℕ} → write_check x note (length b) ≡ Ok tt → n ≡ length (file_of x note) →
      b' ≡ file_of x note ++ drop (length (file_of x note)) b →
      (written (Ok tt) n ≡ written_of x note (length b)) × (b' ≡ buffer_of x note b)
  unfolding written_of buffer_of
  filed_within e size put = (rw (e, size), rw (e, put))
