-- What is said of a file, and what the lent buffer then holds: docs/RULES.md, section 11.
use Rattle.std.specs.Prelude.{ℕ, ◌≡◌, List, Ok, Err}
use Rattle.show.specs.declared.refusal.Refusal.{Refusal}
use Rattle.showfile.specs.declared.Written.{Written}
use Rattle.showfile.specs.Answers.{read_of}
use Rattle.theory.specs.Reasons.{tenths}
use Rattle.theory.specs.Shows.{load_of}
use Rattle.reason.specs.Answers.{Reasoned, ReasonIs}
use Rattle.text.specs.Told.{ToldIs}
use Rattle.explain.specs.Text.{reason_text, refusal_text}

-- The text for a file: the reason for its show, with the load; 1 to 7 where it is no show's file.
pub data SaidIs (f : List ℕ) : List ℕ → Type 0 where
  because :
      (r : Reasoned) → (read_of f).check ≡ Ok tt → ReasonIs (read_of f).show r →
      SaidIs f (reason_text r (tenths (load_of (read_of f).show)))
  unread : (w : Refusal) → (read_of f).check ≡ Err w → SaidIs f (refusal_text w)

-- no text has more bytes than this
abbrev pub said_most : ℕ
said_most = 256

-- That text in the buffer b; or 16, for a buffer too short for the longest.
abbrev pub ExplainIs : List ℕ → List ℕ → Written → List ℕ → Type 0
ExplainIs f b r x = ToldIs (SaidIs f) said_most b r x
