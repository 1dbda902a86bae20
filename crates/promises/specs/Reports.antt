-- The calculator: what it says of a show file, to the byte. docs/RULES.md, section 8. proofs/Reports.antt proves it.
use Rattle.std.specs.Prelude.{ℕ, ◌^◌, ◌≤◌, ◌<◌, ◌≡◌, List, [], length, replicate, Some}
use Rattle.showfile.specs.File.{file_of}
use Rattle.text.specs.Ascii.{ascii}
use Rattle.text.specs.Decimal.{decimal}
use Rattle.text.specs.Numerals.{Numeral}
use Rattle.report.specs.Answers.{TextIs, text_most}
use Rattle.parse_numbers.specs.Numbers.{decimal_of}
use Rattle.promises.specs.Numbers.{X, Z, clip, show_of}

-- p3 with no note
abbrev pub p3_file : List ℕ
p3_file = file_of (show_of X (replicate 3 clip)) []

pub record Reports : Type 0 where
  -- p3's 84 bytes are told in these four lines
  pub p3_bytes : length p3_file ≡ 84
  pub p3 : TextIs p3_file (ascii "accepted 3 156000\n0 2 52000 153601\n1 2 52000 153601\n2 2 52000 153601\n")
  -- an empty show is a yes; an even hundred per cent is a no
  pub empty : TextIs (file_of (show_of X []) []) (ascii "accepted 0 0\n")
  pub hundred : TextIs (file_of (show_of Z (replicate 10 clip)) []) (ascii "refused 8 0\n")
  -- a number is told by its digits, and a program that reads them has that number again
  pub numbers : (n : ℕ) → n < 2 ^ 64 → Numeral n (decimal n)
  pub read_back : (n : ℕ) → n < 2 ^ 64 → decimal_of (decimal n) ≡ Some n
  -- no text has more bytes
  pub most : (f t : List ℕ) → TextIs f t → length t ≤ text_most
