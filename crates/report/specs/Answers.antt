-- What a file is answered, and what the lent buffer then holds: docs/RULES.md, section 8.
use Rattle.std.specs.Prelude.{ℕ, ◌≡◌, List, Ok, Err}
use Rattle.show.specs.declared.refusal.Refusal.{Refusal}
use Rattle.show.specs.declared.refusal.Refusal.TheVariants.{NoSet}
use Rattle.showfile.specs.declared.Written.{Written}
use Rattle.showfile.specs.Answers.{read_of}
use Rattle.text.specs.Lines.{refused_text}
use Rattle.text.specs.Told.{ToldIs}
use Rattle.theory.specs.Counts.{Load, Accepted, Smallest}
use Rattle.theory.specs.Shows.{load_of}
use Rattle.report.specs.Text.{accepted_text}

-- the show in a file, as the verdict sees it
abbrev pub load_in : List ℕ → Load
load_in f = load_of (read_of f).show

-- The text for a file: the smallest set of its show; 8 where there is none; 1 to 7 where it is no show's file.
pub data TextIs (f : List ℕ) : List ℕ → Type 0 where
  granted : (m : ℕ → ℕ) → (read_of f).check ≡ Ok tt → Smallest (load_in f) m → TextIs f (accepted_text (load_in f) m)
  eight : (read_of f).check ≡ Ok tt → (Accepted (load_in f) → ⊥) → TextIs f (refused_text NoSet)
  unread : (w : Refusal) → (read_of f).check ≡ Err w → TextIs f (refused_text w)

-- no text has more bytes than this
abbrev pub text_most : ℕ
text_most = 594

-- A report on the file f into the buffer b: the file's text, in a buffer that takes every text; another buffer is 16, whatever the file.
abbrev pub ReportIs : List ℕ → List ℕ → Written → List ℕ → Type 0
ReportIs f b r x = ToldIs (TextIs f) text_most b r x
