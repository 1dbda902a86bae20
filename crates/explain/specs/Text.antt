-- The line and the sentence for each reason, as bytes: docs/RULES.md, section 11.
use Rattle.std.specs.Prelude.{ℕ, ◌/◌, ◌%◌, List, [], ◌∷◌, ◌++◌, Ok, Err, Some, None}
use Rattle.std.proofs.Math.Logic.{ite}
use Rattle.std.proofs.Math.Decide.{ℕ_discrete}
use Rattle.show.specs.declared.refusal.Refusal.{Refusal}
use Rattle.show.specs.declared.refusal.Told.{Told}
use Rattle.show.specs.Limits.{buffer_most}
use Rattle.show.specs.Refusals.{told_of}
use Rattle.text.specs.Ascii.{ascii}
use Rattle.text.specs.Decimal.{decimal}
use Rattle.text.specs.Lines.{paired, refused_text}
use Rattle.reason.specs.Answers.{Reasoned}
use Rattle.reason.specs.declared.Reason.TheVariants as reason

-- A load in tenths of a per cent, as a percentage among words: 1003 is 100.3.
abbrev pub load_text : List ℕ → ℕ → List ℕ → List ℕ
load_text before tenths after = paired before (tenths / 10) (ascii ".") (tenths % 10) after

-- No buffer is large enough: the largest that there is.
abbrev pub beyond_text : ℕ → List ℕ
beyond_text tenths =
    load_text (ascii "beyond\nThe drive would keep up, working at ") tenths
    (ascii " per cent, but some clip would need a buffer of more than ")
    ++ (decimal buffer_most ++ ascii " bytes, the most there is.\n")

-- Too small a buffer: the session and the size on the line, and again in the sentence.
abbrev pub buffer_text : ℕ → ℕ → ℕ → List ℕ
buffer_text i size tenths =
    paired (ascii "buffer ") i (ascii " ") size (ascii "\nClip ")
    ++ (paired (ascii "") i (ascii ", counted from 0, needs a buffer of ") size (ascii " bytes or more; the drive itself would keep up, working at ")
    ++ load_text (ascii "") tenths (ascii " per cent.\n"))

-- for a number that no file is refused with
abbrev pub plainly : List ℕ
plainly = ascii "The show is refused.\n"

-- a layout or a clip by its place
abbrev pub layout_text : ℕ → List ℕ
layout_text i = ascii "Layout " ++ (decimal i ++ ascii ", counted from 0, has a time that cannot be right.\n")

abbrev pub clip_text : ℕ → List ℕ
clip_text i = ascii "Clip " ++ (decimal i ++ ascii ", counted from 0, has a number that cannot be right.\n")

-- What each number means that a file is refused with; i is the place.
abbrev pub sentences : ℕ → List (ℕ × List ℕ)
sentences i =
    (1, ascii "This is no show file, or not all of it: it is too short or too long to be one.\n")
    ∷ (2, ascii "The show says that it has no layout, or too many layouts or clips.\n")
    ∷ (3, ascii "The file is damaged: its parts are not where it says they are.\n")
    ∷ (4, ascii "The note in the file is too long.\n")
    ∷ (5, ascii "The block size, or the number of blocks to a cylinder, cannot be right.\n")
    ∷ (6, layout_text i)
    ∷ (7, clip_text i)
    ∷ []

-- the sentence that stands at a number in such a table
unfoldable pub spoken : List (ℕ × List ℕ) → ℕ → List ℕ
spoken [] n = plainly
spoken (s ∷ rest) n = ite (ℕ_discrete n s.0) s.1 (spoken rest n)

-- What a refusal means, by the number and the place that it is told by.
unfoldable pub sentence : Told → List ℕ
sentence t = spoken (sentences t.place) t.number

-- The calculator's line for a refusal, and what it means.
abbrev pub refusal_text : Refusal → List ℕ
refusal_text w = refused_text w ++ sentence (told_of w)

-- The reason, and the load in tenths of a per cent.
abbrev pub reason_text : Reasoned → ℕ → List ℕ
reason_text (Ok None) t = load_text (ascii "none\nThe drive keeps up: it works at ") t (ascii " per cent, and every buffer is large enough.\n")
reason_text (Ok (Some reason.Overload)) t = load_text (ascii "overload\nThe drive would have to work at ") t (ascii " per cent; at an even hundred it never keeps up.\n")
reason_text (Ok (Some reason.Beyond)) t = beyond_text t
reason_text (Ok (Some (reason.Buffer i size))) t = buffer_text i size t
reason_text (Err w) t = refusal_text w
