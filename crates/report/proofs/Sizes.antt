-- No text is longer than text_most: of U only B6 is cited. Assumes nothing.
use Prim.Native.Nat.{ℕ, zero, suc, ◌+◌, ◌*◌, ◌-◌, ◌≤◌, ◌<◌}
use mathlib.Core.Path.{◌≡◌, ap, ◌∙◌}
use mathlib.Core.List.{List}
use native.Mathlib.Decide.{dec_lt}
use native.Mathlib.Nat.{le_refl, le_trans}
use native.Mathlib.Numerals.{add-one}
use native.Mathlib.Omega.{arith}
use lib.ListN.{length, length-append}
use Rattle.show.specs.declared.Show.{Show}
use Rattle.show.specs.declared.refusal.Refusal.TheVariants.{NoSet}
use Rattle.show.specs.Limits.{ShowWithin, buffer_most}
use Rattle.cost.specs.Bound.{count_most, worst_most}
use Rattle.cost.specs.Costs.{cost_of}
use Rattle.cost.proofs.Bound.{worst_capped}
use Rattle.cost.proofs.Costs.{cost_limited}
use Rattle.showfile.proofs.Readable.{read_within}
use Rattle.text.specs.Ascii.{ascii}
use Rattle.text.specs.Decimal.{decimal}
use Rattle.text.specs.Lines.{two_line}
use Rattle.text.specs.Puts.{FitsAt}
use Rattle.text.proofs.Digits.{decimal_few}
use Rattle.text.proofs.Lines.{two_length, refused_few}
use Rattle.theory.specs.Counts.{Load, Good, round_time, needed}
use Rattle.theory.specs.Shows.{load_of}
use Rattle.theory.proofs.Sum.{sum_capped}
use Rattle.theory.proofs.Shows.{feasible_few}
use Rattle.report.specs.Text.{four_line, session_line, session_lines, accepted_text}
use Rattle.report.specs.Answers.{load_in, TextIs, granted, eight, unread, text_most}
use Rattle.report.proofs.Texts.{lines_none, lines_more}

four_length :
    (a b c d : ℕ) → length (four_line a b c d) ≡ length (decimal a) + length (decimal b) + length (decimal c) + length (decimal d) + 4
four_length a b c d = simp length-append (omega arith)

-- What the numbers of a text stay below.
record Small (l : Load) (m : ℕ → ℕ) : Type 0 where
  playing : l.playing ≤ 16
  count : (i : ℕ) → i < l.playing → m i < count_most
  time : (i : ℕ) → i < l.playing → (l.stream i).time (m i) < worst_most
  size : (i : ℕ) → i < l.playing → needed l i (m i) ≤ buffer_most

good_small : (s : Show) → ShowWithin s → (m : ℕ → ℕ) → Good (load_of s) m → Small (load_of s) m
good_small s w m g =
    record {
      playing = w.counts.sessions;
      count = feasible_few s w m g.feasible;
      time = λ i l. worst_capped s.drive.cylinder (cost_of s i) (cost_limited s w i l) (m i) (let h = feasible_few s w m g.feasible i l in omega arith);
      size = λ i l. le_trans (g.feasible i l) (w.sessions i l).buffer.high;
    }

-- one digit for a session's number below 10, else two
number_few : (i : ℕ) → i < 16 → Dec (i < 10) → length (decimal i) + (i - 10) ≤ 1 + (i + 1 - 10)
number_few i b (yes g) = let n = decimal_few 0 i g in omega arith
number_few i b (no g) = let n = decimal_few 1 i (omega arith) in omega arith

module _ (l : Load) (m : ℕ → ℕ) (h : Small l m) where
  line_few : (i : ℕ) → i < l.playing → length (session_line l m i) + (i - 10) ≤ 35 + (i + 1 - 10)
  line_few i b =
      let number = number_few i (let p = h.playing in omega arith) (dec_lt i 10) in
      let count = decimal_few 6 (m i) (let g = h.count i b in omega arith) in
      let time = decimal_few 12 _ (h.time i b) in
      let size = decimal_few 9 (needed l i (m i)) (let g = h.size i b in omega arith) in
      let whole = four_length i (m i) ((l.stream i).time (m i)) (needed l i (m i)) in
      omega arith

  lines_few : (n : ℕ) → n ≤ l.playing → length (session_lines l m n) ≤ 35 * n + (n - 10)
  lines_few zero b = rw (lines_none l m) (omega arith)
  lines_few (suc n) b =
      let i = lines_few n (omega arith) in
      let g = line_few n (omega arith) in
      let e : length (session_lines l m (n + 1)) ≡ length (session_lines l m n) + length (session_line l m n) =
      ap length (lines_more l m n) ∙ length-append (session_lines l m n) (session_line l m n) in
      rw (← add-one n) (omega arith)

  -- fifteen digits for L
  round_few : round_time l m ≤ 16 * worst_most
  round_few =
      let s : round_time l m ≤ l.playing * worst_most = sum_capped _ worst_most l.playing (λ i b. (let g = h.time i b in omega arith)) in
      let p = h.playing in
      omega arith

  accepted_few : length (accepted_text l m) ≤ text_most
  accepted_few =
      let p = h.playing in
      let count = decimal_few 1 l.playing (omega arith) in
      let round = decimal_few 14 (round_time l m) (let g = round_few in omega arith) in
      let lines = lines_few l.playing (le_refl _) in
      let first = two_length (ascii "accepted ") l.playing (round_time l m) in
      let whole = length-append (two_line (ascii "accepted ") l.playing (round_time l m)) (session_lines l m l.playing) in
      omega arith

pub text_most_holds : (f t : List ℕ) → TextIs f t → length t ≤ text_most
text_most_holds f t (granted m e s) = accepted_few (load_in f) m (good_small _ (read_within f e) m s.good)
text_most_holds f t (eight e none) = let g = refused_few NoSet in omega arith
text_most_holds f t (unread w e) = let g = refused_few w in omega arith

-- A buffer that takes every text has room for this one.
pub text_room : (f t b : List ℕ) → TextIs f t → text_most ≤ length b → FitsAt b 0 t
text_room f t b h l = record { fits = (let g = text_most_holds f t h in omega arith) }
