-- The lines that more than one text has, as bytes: docs/RULES.md, section 8.
use Rattle.std.specs.Prelude.{ℕ, List, ◌++◌}
use Rattle.show.specs.declared.refusal.Refusal.{Refusal}
use Rattle.show.specs.Refusals.{number_of, place_of}
use Rattle.text.specs.Ascii.{ascii}
use Rattle.text.specs.Decimal.{decimal}

-- a number and a space; a number and the end of the line
abbrev pub spaced : ℕ → List ℕ
spaced n = decimal n ++ ascii " "

abbrev pub ended : ℕ → List ℕ
ended n = decimal n ++ ascii "\n"

-- two numbers among words
abbrev pub paired : List ℕ → ℕ → List ℕ → ℕ → List ℕ → List ℕ
paired before a between b after = before ++ ((decimal a ++ between) ++ (decimal b ++ after))

-- two numbers after a word, on a line
abbrev pub two_line : List ℕ → ℕ → ℕ → List ℕ
two_line word a b = paired word a (ascii " ") b (ascii "\n")

-- a refusal: `refused`, number, place
abbrev pub refused_text : Refusal → List ℕ
refused_text w = two_line (ascii "refused ") (number_of w) (place_of w)
