-- No text is longer than said_most, whatever its numbers. Assumes nothing.
use Rattle.std.specs.Prelude.{Ok, Err, Some, None}
use Prim.Native.Nat.{ℕ, ◌/◌, ◌%◌, ◌≤◌}
use mathlib.Core.Path.{◌≡◌}
use mathlib.Core.List.{List, [], ◌∷◌}
use mathlib.Core.Logic.{ite}
use native.Mathlib.Decide.{ℕ_discrete}
use native.Mathlib.Omega.{arith}
use lib.ListN.{length, length-append}
use Rattle.show.specs.declared.refusal.Refusal.{Refusal}
use Rattle.show.specs.declared.refusal.Told.{Told}
use Rattle.show.specs.Limits.{buffer_most}
use Rattle.show.specs.Refusals.{told_of}
use Rattle.text.specs.Decimal.{decimal}
use Rattle.text.specs.Lines.{refused_text}
use Rattle.text.specs.Puts.{FitsAt}
use Rattle.text.proofs.Digits.{decimal_most}
use Rattle.text.proofs.Lines.{refused_few}
use Rattle.reason.specs.Answers.{Reasoned}
use Rattle.reason.specs.declared.Reason.TheVariants as reason
use Rattle.explain.specs.Text.{sentences, spoken, sentence, refusal_text, reason_text}
use Rattle.explain.specs.Answers.{SaidIs, because, unread, said_most}

-- a table of sentences of at most 80 bytes each
abbrev Few : List (ℕ × List ℕ) → Type 0
Few [] = Unit
Few (s ∷ rest) = (length s.1 ≤ 80) × Few rest

spoken_few : (l : List (ℕ × List ℕ)) (n : ℕ) → Few l → length (spoken l n) ≤ 80
unfolding spoken
spoken_few [] n few = omega arith
spoken_few (s ∷ rest) n few = from (ℕ_discrete n s.0) (spoken_few rest n few.1)
  where
    from : (d : Dec (n ≡ s.0)) → length (spoken rest n) ≤ 80 → length (ite d s.1 (spoken rest n)) ≤ 80
    from (yes e) h = few.0
    from (no e) h = h

sentences_few : (i : ℕ) → Few (sentences i)
sentences_few i =
    let place = decimal_most i in
    (omega arith, (omega arith, (omega arith, (omega arith, (omega arith, (simp length-append (omega arith), (simp length-append (omega arith), tt)))))))

sentence_few : (t : Told) → length (sentence t) ≤ 80
unfolding sentence
sentence_few t = spoken_few (sentences t.place) t.number (sentences_few t.place)

refusal_few : (w : Refusal) → length (refusal_text w) ≤ said_most
refusal_few w =
    let line = refused_few w in
    let rest = sentence_few (told_of w) in
    omega (arith, length-append (refused_text w) (sentence (told_of w)))

module _ (t : ℕ) where
  whole : length (decimal (t / 10)) ≤ 20
  whole = decimal_most (t / 10)

  tenth : length (decimal (t % 10)) ≤ 20
  tenth = decimal_most (t % 10)

  reason_few : (r : Reasoned) → length (reason_text r t) ≤ said_most
  reason_few (Ok None) = simp length-append (omega (arith, whole, tenth))
  reason_few (Ok (Some reason.Overload)) = simp length-append (omega (arith, whole, tenth))
  reason_few (Ok (Some reason.Beyond)) = simp length-append (omega (arith, whole, tenth, decimal_most buffer_most))
  reason_few (Ok (Some (reason.Buffer i size))) = simp length-append (omega (arith, whole, tenth, decimal_most i, decimal_most size))
  reason_few (Err w) = refusal_few w

pub said_most_holds : (f t : List ℕ) → SaidIs f t → length t ≤ said_most
said_most_holds f t (because r e a) = reason_few _ r
said_most_holds f t (unread w e) = refusal_few w

-- A buffer that takes every text has room for this one.
module _ (b : List ℕ) (l : said_most ≤ length b) where
  pub reason_room : (r : Reasoned) (t : ℕ) → FitsAt b 0 (reason_text r t)
  reason_room r t = record { fits = (let g = reason_few t r in omega arith) }

  pub refusal_room : (w : Refusal) → FitsAt b 0 (refusal_text w)
  refusal_room w = record { fits = (let g = refusal_few w in omega arith) }
