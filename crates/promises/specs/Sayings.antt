-- What is said on the telephone, to the byte: docs/RULES.md, section 11. proofs/Sayings.antt proves it.
use Rattle.std.specs.Prelude.{ℕ, ◌≤◌, ◌≡◌, List, [], ◌∷◌, ◌⊎◌, length, replicate, Ok, None}
use Rattle.show.specs.declared.refusal.Refusal.{Refusal}
use Rattle.show.specs.Refusals.{number_of}
use Rattle.showfile.specs.File.{file_of}
use Rattle.showfile.specs.Answers.{read_of}
use Rattle.theory.specs.Reasons.{tenths}
use Rattle.theory.specs.Shows.{load_of}
use Rattle.reason.specs.Answers.{Reasoned}
use Rattle.text.specs.Ascii.{ascii}
use Rattle.explain.specs.Text.{reason_text, refusal_text}
use Rattle.explain.specs.Answers.{SaidIs, said_most}
use Rattle.promises.specs.Refusals.{OneOf}
use Rattle.promises.specs.Reasons.{ForEight}
use Rattle.promises.specs.Numbers.{X, Z, buffered, clip, show_of}

pub record Sayings : Type 0 where
  pub p3 :
      SaidIs (file_of (show_of X (replicate 3 clip)) [])
      (ascii "none\nThe drive keeps up: it works at 30.6 per cent, and every buffer is large enough.\n")
  -- p6, an even hundred per cent
  pub p6 :
      SaidIs (file_of (show_of Z (replicate 10 clip)) [])
      (ascii "overload\nThe drive would have to work at 100.0 per cent; at an even hundred it never keeps up.\n")
  -- p2, with a buffer that is a byte short
  pub p2 :
      SaidIs (file_of (show_of X (buffered 102400 ∷ [])) [])
      (ascii "buffer 0 102401\nClip 0, counted from 0, needs a buffer of 102401 bytes or more; the drive itself would keep up, working at 10.2 per cent.\n")
  -- every text is that of a reason, or that of a refusal with 1 to 7
  pub either :
      (f t : List ℕ) → SaidIs f t →
      ((r : Reasoned) × (((r ≡ Ok None) ⊎ ForEight r) × (t ≡ reason_text r (tenths (load_of (read_of f).show)))))
      ⊎ ((w : Refusal) × (OneOf (1 ∷ 2 ∷ 3 ∷ 4 ∷ 5 ∷ 6 ∷ 7 ∷ []) (number_of w) × (t ≡ refusal_text w)))
  -- no text has more bytes
  pub most : (f t : List ℕ) → SaidIs f t → length t ≤ said_most
