-- Writing does not look at unused places: shows that agree below their counts are written alike. Assumes nothing.
use Rattle.std.specs.Prelude.{Ok, Err}
use Prim.Native.Nat.{ℕ, ◌≤◌, ◌<◌}
use mathlib.Core.Path.{◌≡◌, refl, sym, ap, ap₂, subst, ◌∙◌}
use mathlib.Core.List.{List}
use native.Mathlib.Omega.{arith}
use native.Mathlib.Decide.{dec_lt}
use native.Mathlib.Nat.{le_refl}
use lib.ListN.{length, take, get_or, get_or-eq_default}
use lib.Seq.{length-take-le, get_or-take, ext_get_or}
use Rattle.show.specs.Outcomes.{Check}
use Rattle.show.specs.declared.Show.{Show}
use Rattle.show.specs.declared.refusal.Refusal.{Refusal}
use Rattle.show.specs.declared.refusal.Refusal.TheVariants.{Counts}
use Rattle.show.specs.Limits.{CountsWithin, LayoutWithin, SessionWithin, ShowWithin, Alike, no_layout, no_session}
use Rattle.show.specs.Decisions.{counts?}
use Rattle.show.specs.Checks.{first, counts_check, limits_check}
use Rattle.show.proofs.Checks.{unless_within}
use Rattle.show.proofs.Shows.{limits_left, alike_check}
use Rattle.showfile.specs.File.{trailer_for, file_of}
use Rattle.showfile.specs.Checks.{note_check}
use Rattle.showfile.specs.Answers.{written, written_over}
use Rattle.showfile.proofs.Passed.{limits_within}
use Rattle.showfile_write.specs.Answers.{room_check, write_check, written_of, buffer_of}
use Rattle.showfile_write.proofs.Passed.{check_writable}

-- ---- rows

module _ {A : Type 0} (d : A) (P : A → Type 0) (none : P d → ⊥) where
  -- A row with a record at each of its first n places is no shorter.
  row_long : (l : List A) (n : ℕ) → ((i : ℕ) → i < n → P (get_or l i d)) → n ≤ length l
  row_long l n h =
      elim (dec_lt (length l) n) [
        | yes b ↦ absurd (none (subst P (get_or-eq_default l d (le_refl (length l))) (h (length l) b)))
        | no b ↦ omega arith
      ]

  -- Rows of records that agree at their first n places begin alike.
  row_same :
      (l m : List A) (n : ℕ) → ((i : ℕ) → i < n → P (get_or l i d)) → ((i : ℕ) → i < n → get_or l i d ≡ get_or m i d) → take n l ≡ take n m
  row_same l m n h e =
      let x = length-take-le n l (row_long l n h) in
      let y = length-take-le n m (row_long m n (λ i b. subst P (e i b) (h i b))) in
      ext_get_or d (take n l) (take n m) (x ∙ sym y)
      (λ i b.
      let c : i < n = omega arith in
      get_or-take n l i d c ∙ e i c ∙ sym (get_or-take n m i d c))

module _ (s t : Show) (a : Alike s t) (w : ShowWithin s) where
  pub layouts_same : take s.laid s.layouts ≡ take t.laid t.layouts
  layouts_same =
      row_same no_layout LayoutWithin (λ h. omega arith) s.layouts t.layouts s.laid w.layouts a.layouts
      ∙ ap (λ (n : ℕ). take n t.layouts) a.laid

  pub sessions_same : take s.playing s.sessions ≡ take t.playing t.sessions
  sessions_same =
      row_same no_session (SessionWithin s.laid) (λ h. omega arith) s.sessions t.sessions s.playing w.sessions a.sessions
      ∙ ap (λ (n : ℕ). take n t.sessions) a.playing

  trailer_same : trailer_for s ≡ trailer_for t
  unfolding trailer_for
  trailer_same = rw (a.drive, a.laid, a.playing)

  pub file_same : (note : List ℕ) → file_of s note ≡ file_of t note
  unfolding file_of
  file_same note = rw (layouts_same, sessions_same, trailer_same)

-- ---- answers

-- What is told beside a refusal is the same whatever it is told of, so that need be the same only where the test is passed.
pub told_same :
    {A B : Type 0} (tell : Check → A → B) → ((w : Refusal) (x y : A) → tell (Err w) x ≡ tell (Err w) y) → (k j : Check) (x y : A) → k ≡ j →
    (k ≡ Ok tt → x ≡ y) → tell k x ≡ tell j y
told_same tell refused k j x y e f = from k refl ∙ ap (λ (c : Check). tell c y) e
  where
    from : (c : Check) → k ≡ c → tell c x ≡ tell c y
    from (Ok tt) g = ap (tell (Ok tt)) (f g)
    from (Err w) g = refused w x y

module _ (s t : Show) (a : Alike s t) (note : List ℕ) where
  limits_same : CountsWithin s.laid s.playing → limits_check s ≡ limits_check t
  limits_same c = sym (limits_left s c) ∙ alike_check s t a ∙ limits_left t (rw (← a.laid, ← a.playing) c)

  pub write_check_same : (room : ℕ) → write_check s note room ≡ write_check t note room
  unfolding write_check
  write_check_same room =
      told_same first (λ w x y. refl) (counts_check s.laid s.playing) (counts_check t.laid t.playing) _ _
      (ap₂ counts_check a.laid a.playing)
      (λ e.
      let c = unless_within (counts? s.laid s.playing) Counts e in
      ap (first (note_check (length note)))
      (told_same first (λ w x y. refl) (limits_check s) (limits_check t) _ _ (limits_same c)
      (λ l. ap (λ (f : List ℕ). room_check (length f) room) (file_same s t a (limits_within s c l) note))))

  -- Where it may be written, the file is the same.
  writable_same : (room : ℕ) → write_check s note room ≡ Ok tt → file_of s note ≡ file_of t note
  writable_same room e = file_same s t a (check_writable s note room e).within note

  pub written_same : (room : ℕ) → written_of s note room ≡ written_of t note room
  unfolding written_of
  written_same room =
      told_same written (λ w x y. refl) (write_check s note room) (write_check t note room) _ _ (write_check_same room)
      (λ e. ap length (writable_same room e))

  pub buffer_same : (b : List ℕ) → buffer_of s note b ≡ buffer_of t note b
  unfolding buffer_of
  buffer_same b =
      told_same (λ k f. written_over k f b) (λ w x y. refl) (write_check s note (length b)) (write_check t note (length b)) _ _
      (write_check_same (length b)) (writable_same (length b))
