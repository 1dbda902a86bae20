-- Wrong answers that the contracts rule out, of files and texts and of the calls for C: as specs/RuledOut says. proofs/RuledOutOfTexts.antt proves it.
use Rattle.std.specs.Prelude.{ℕ, ◌≤◌, ◌≡◌, true, List, [], ◌∷◌, ◌++◌, length, replicate, get_or, Ok, Err, Some, None}
use Rattle.show.specs.declared.Show.{Show}
use Rattle.show.specs.declared.refusal.Refusal.{Refusal}
use Rattle.show.specs.declared.refusal.Refusal.TheVariants as refusal
use Rattle.show.specs.Limits.{Tells, no_layout, no_session, no_show, layout_at}
use Rattle.showfile.specs.declared.trailer.Trailer.{Trailer}
use Rattle.showfile.specs.declared.Written.{Written}
use Rattle.showfile.specs.File.{layout_bytes, trailer_bytes, file_of}
use Rattle.showfile.specs.Checks.{note_length}
use Rattle.showfile.specs.Answers.{reading, read_of, note_of}
use Rattle.showfile_write.specs.Answers.{written_of, buffer_of}
use Rattle.showfile_copy.specs.Trips.{reread_of, copied_of, copy_of}
use Rattle.parse.specs.Parts.{find_of, parts_of, part_of}
use Rattle.parse_numbers.specs.Numbers.{decimal_of}
use Rattle.parse_numbers.specs.Bytes.{bytes_of, put_of}
use Rattle.parse.specs.Places.{PlaceIs}
use Rattle.text.specs.Ascii.{ascii}
use Rattle.text.specs.Decimal.{decimal}
use Rattle.text_forms.specs.Forms.{form_text}
use Rattle.text_forms.specs.Hex.{hex_text}
use Rattle.text.specs.Lines.{paired}
use Rattle.text.specs.Puts.{put_over, put_to}
use Rattle.report.specs.Answers.{TextIs, ReportIs, text_most}
use Rattle.explain.specs.Answers.{SaidIs}
use Rattle.reason.specs.declared.Reason.TheVariants as reason
use Rattle.chikchiro.specs.Answers.{Slices, Enough, ReportedIs, DecidedIs, FileReasonIs, ReasonedIs}
use Rattle.promises.specs.Numbers.{box, X, buffered, clip, show_of}
use Rattle.promises.specs.Order.{trailer_at, trailer_in}
use Rattle.promises.specs.Reports.{p3_file}

-- a show of one layout and no session, whose file has 36 bytes and begins with 32, and the trailer of such a file with these distances
abbrev pub small : Show
small = show_of X []

abbrev pub trailing : ℕ → ℕ → Trailer
trailing far near = record { drive = box; laid = 1; playing = 0; far = far; near = near }

-- the same with rubbish in an unused place, and with no drive
abbrev pub littered : Show
littered = record { drive = box; layouts = X ∷ X ∷ replicate 6 no_layout; laid = 1; sessions = replicate 16 no_session; playing = 0 }

abbrev pub driveless : Show
driveless = record { drive = record { block = 0; cylinder = 0 }; layouts = X ∷ replicate 7 no_layout; laid = 1; sessions = replicate 16 no_session; playing = 0 }

pub record OfShowfile : Type 0 where
  -- `read`: yes to 1,429 bytes; yes to a note of 1,025
  pub file_one_byte_longer : (f : List ℕ) → length f ≡ 1429 → (read_of f).check ≡ Ok tt → ⊥
  pub note_one_byte_longer : (f : List ℕ) → note_length (trailer_at f) (trailer_in f) ≡ 1025 → (read_of f).check ≡ Ok tt → ⊥
  -- yes to a distance that goes by the layouts; 5 before 3
  pub distance_by_layouts : (read_of (layout_bytes X ++ trailer_bytes (trailing 16 16))).check ≡ Ok tt → ⊥
  pub five_before_three :
      (read_of (trailer_bytes (record { drive = driveless.drive; laid = 1; playing = 0; far = 0; near = 0 }))).check ≡ Err refusal.DriveLimits → ⊥
  -- an unused place that is not zero
  pub unused_not_zero : (layout_at (read_of p3_file).show 1).rotation ≡ 1 → ⊥
  -- `note`: what follows the note
  pub note_is_the_rest : length (note_of (file_of small (7 ∷ []))) ≡ 36 → ⊥
  -- `refused`: a refusal told as a yes
  pub refusal_as_yes : (w : Refusal) → (reading (Err w) no_show 0).check ≡ Ok tt → ⊥

pub record OfShowfileWrite : Type 0 where
  -- `write`: the note of a file that does not fit is put; a refused show is written; a byte past the file is; bytes 2 and 3 of 512,000 change places
  pub refused_leaves_the_note : get_or (buffer_of small (7 ∷ []) (replicate 36 9)) 0 0 ≡ 7 → ⊥
  pub written_though_refused : get_or (buffer_of driveless [] (replicate 36 9)) 0 0 ≡ 32 → ⊥
  pub byte_past_the_file : get_or (buffer_of small [] (replicate 37 9)) 36 0 ≡ 0 → ⊥
  pub higher_byte_first : get_or (buffer_of (show_of X (clip ∷ [])) [] (replicate 52 0)) 18 0 ≡ 0 → ⊥
  -- refused, a length
  pub length_of_nothing : (written_of small [] 0).len ≡ 20 → ⊥
  -- `reread`: a note as long as the buffer; rubbish in an unused place
  pub another_note : (reread_of small (7 ∷ []) 100).note ≡ 100 → ⊥
  pub rubbish_read_again : (reread_of littered [] 36).show ≡ littered → ⊥
  -- `copy`: only the note; 16 before 1
  pub copies_the_note_alone : get_or (copy_of (file_of small []) (replicate 36 9)) 0 0 ≡ 9 → ⊥
  pub sixteen_before_one : (copied_of (7 ∷ []) 0).check ≡ Err refusal.BufferShort → ⊥

pub record OfParse : Type 0 where
  -- `find`: one place too far; past the end
  pub find_one_too_far : find_of 32 (ascii "a b") ≡ 2 → ⊥
  pub find_past_the_end : find_of 32 [] ≡ 1 → ⊥
  -- `parts`: other bytes make parts; `part`: the one after
  pub parts_by_other_bytes : parts_of 32 (ascii "ab") ≡ 3 → ⊥
  pub part_after_the_asked : part_of 32 0 (ascii "a b") ≡ ascii "b" → ⊥
  -- `same`: yes to two of one length
  pub same_by_length : Tells true (ascii "a" ≡ ascii "b") → ⊥
  -- `decimal`: 2^64 - 1 is none
  pub short_of_the_most : decimal_of (ascii "18446744073709551615") ≡ None → ⊥
  -- `unhex`: the lower digit first
  pub low_digit_first : put_of (bytes_of (ascii "0f")) (0 ∷ []) ≡ 240 ∷ [] → ⊥
  -- `place_in`: a word that is none of the names is the second of them
  pub name_of_none : PlaceIs (ascii "a b") (ascii "c") 1 → ⊥

pub record OfText : Type 0 where
  -- `put_word`: a word that just fits is left out; where none fits, a place after it
  pub just_fits_left_out : put_to (0 ∷ []) 0 (ascii "a") ≡ 0 → ⊥
  pub place_after_none : put_to [] 0 (ascii "a") ≡ 1 → ⊥
  -- `put_numbered`: 10 in one digit; 100 where two digits have room
  pub ten_as_one_digit : put_to (replicate 2 0) 0 ([] ++ (decimal 10 ++ [])) ≡ 1 → ⊥
  pub no_room_for_a_digit : put_over (replicate 2 0) 0 ([] ++ (decimal 100 ++ [])) ≡ ascii "10" → ⊥
  -- `width`: 0 has no digit
  pub nothing_for_zero : length (decimal 0) ≡ 0 → ⊥
  -- `put_paired`: the first number alone where both have no room
  pub half_a_pair : put_over (replicate 2 0) 0 (paired [] 1 (ascii " ") 2 []) ≡ ascii "1 " → ⊥
  -- `put_form`: a text that just fits is left out
  pub form_left_out : put_to (replicate 2 0) 0 (form_text (ascii "#") (10 ∷ [])) ≡ 0 → ⊥
  -- `put_hex`: nothing for no bytes
  pub hex_of_none : put_to (replicate 2 0) 0 (hex_text []) ≡ 0 → ⊥

pub record OfReport : Type 0 where
  -- `report`: yes to 593 bytes; 16 for a buffer that takes every text
  pub one_byte_too_short : (f b : List ℕ) (r : Written) (x : List ℕ) → ReportIs f b r x → length b ≡ 593 → r.check ≡ Ok tt → ⊥
  pub sixteen_for_every_buffer :
      (f b : List ℕ) (r : Written) (x : List ℕ) → ReportIs f b r x → text_most ≤ length b → r.check ≡ Err refusal.BufferShort → ⊥
  -- 7 without its place; p3's first line with L before the session count; its last without its end
  pub place_left_out : (f : List ℕ) → (read_of f).check ≡ Err (refusal.SessionLimits 1) → TextIs f (ascii "refused 7 0\n") → ⊥
  pub count_and_round_swapped : TextIs p3_file (ascii "accepted 156000 3\n0 2 52000 153601\n1 2 52000 153601\n2 2 52000 153601\n") → ⊥
  pub no_newline_at_the_end : TextIs p3_file (ascii "accepted 3 156000\n0 2 52000 153601\n1 2 52000 153601\n2 2 52000 153601 ") → ⊥

pub record OfExplain : Type 0 where
  -- `explain`: 7 told of a layout; p2's size before its session
  pub layout_said_of_a_clip :
      (f : List ℕ) → (read_of f).check ≡ Err (refusal.SessionLimits 0) →
      SaidIs f (ascii "refused 7 0\nLayout 0, counted from 0, has a number that cannot be right.\n") → ⊥
  pub session_and_size_swapped :
      SaidIs (file_of (show_of X (buffered 102400 ∷ [])) [])
      (ascii "buffer 102401 0\nClip 0, counted from 0, needs a buffer of 102401 bytes or more; the drive itself would keep up, working at 10.2 per cent.\n") →
      ⊥

pub record OfChikchiro : Type 0 where
  -- `chikchiro_report`: p3's text as long as the longest
  pub every_text_the_longest : (b : List ℕ) (n : ℕ) (x : List ℕ) → ReportedIs p3_file b n x → n ≡ text_most → ⊥
  -- `chikchiro_decide`: yes with fifteen places for counts; the place times 16
  pub fifteen_places : (f : List ℕ) (b : Slices) (r : ℕ) (x : Slices) → DecidedIs f b r x → length b.counts ≡ 15 → r ≡ 0 → ⊥
  pub place_times_sixteen :
      (f : List ℕ) (b : Slices) (r : ℕ) (x : Slices) → DecidedIs f b r x → Enough b → (read_of f).check ≡ Err (refusal.SessionLimits 1) → r ≡ 23 → ⊥
  -- `chikchiro_reason`: an overload told as beyond
  pub overload_as_beyond :
      (f b : List ℕ) (r : ℕ) (x : List ℕ) → ReasonedIs f b r x → 3 ≤ length b → FileReasonIs f (Ok (Some reason.Overload)) → get_or x 0 0 ≡ 2 → ⊥
