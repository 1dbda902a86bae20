-- The words for each number; those for a number that the table has not are the same for all. Assumes nothing.
use mathlib.Core.Path.{◌≡◌, refl, ap, ◌∙◌}
use mathlib.Core.List.{List, [], ◌∷◌}
use mathlib.Core.Logic.{if_neg}
use Prim.Native.Nat.{ℕ}
use native.Mathlib.Omega.{arith}
use native.Mathlib.Decide.{ℕ_discrete}
use Rattle.show.specs.declared.refusal.Told.{Told}
use Rattle.text.specs.Puts.{put_over, put_to, FitsAt, Put}
use Rattle.text.proofs.Puts.{answer_as}
use Rattle.explain.specs.Text.{plainly, sentences, spoken, sentence}
use Rattle.explain.proofs.line.put_sentence.Goals as goal

-- an arm whose number the table has
arm :
    (t : Told) (n : ℕ) (s was after : List ℕ) (at next : ℕ) → after ≡ put_over was at s → next ≡ put_to was at s → t.number ≡ n →
    spoken (sentences t.place) n ≡ s → FitsAt was at (sentence t) → Put was at (sentence t) after next
unfolding sentence
arm t n s was after at next e f h g room = answer_as (ap (spoken (sentences t.place)) h ∙ g) room (e, f)

-- no number of a table, as the last arm is handed it
abbrev NoneOf : Type 0 → List (ℕ × List ℕ) → ℕ → Type 0
NoneOf before [] n = before
NoneOf before (s ∷ rest) n = NoneOf (before × (n ≡ s.0 → ⊥)) rest n

before_them : (before : Type 0) (l : List (ℕ × List ℕ)) (n : ℕ) → NoneOf before l n → before
before_them before [] n h = h
before_them before (s ∷ rest) n h = (before_them (before × (n ≡ s.0 → ⊥)) rest n h).0

spoken_plainly : (before : Type 0) (l : List (ℕ × List ℕ)) (n : ℕ) → NoneOf before l n → spoken l n ≡ plainly
unfolding spoken
spoken_plainly before [] n h = refl
spoken_plainly before (s ∷ rest) n h =
    if_neg (ℕ_discrete n s.0) (before_them (before × (n ≡ s.0 → ⊥)) rest n h).1 _ _
    ∙ spoken_plainly (before × (n ≡ s.0 → ⊥)) rest n h

-- the last arm
last :
    (t : Told) (was after : List ℕ) (at next : ℕ) → after ≡ put_over was at plainly → next ≡ put_to was at plainly →
    NoneOf Unit (sentences t.place) t.number → FitsAt was at (sentence t) → Put was at (sentence t) after next
unfolding sentence
last t was after at next e f none room = answer_as (spoken_plainly Unit (sentences t.place) t.number none) room (e, f)

pub returns-in-1 : goal.returns-in-1
unfolding spoken ℕ_discrete
returns-in-1 c =
    arm c.args.told 1 _ _ _ _ _ c.put_word.ensures.out_after c.put_word.ensures.value c.in-1.is refl c.requires

pub returns-in-2 : goal.returns-in-2
unfolding spoken ℕ_discrete
returns-in-2 c =
    arm c.args.told 2 _ _ _ _ _ c.put_word-in-2.ensures.out_after c.put_word-in-2.ensures.value c.in-2.is refl c.requires

pub returns-in-3 : goal.returns-in-3
unfolding spoken ℕ_discrete
returns-in-3 c =
    arm c.args.told 3 _ _ _ _ _ c.put_word-in-3.ensures.out_after c.put_word-in-3.ensures.value c.in-3.is refl c.requires

pub returns-in-4 : goal.returns-in-4
unfolding spoken ℕ_discrete
returns-in-4 c =
    arm c.args.told 4 _ _ _ _ _ c.put_word-in-4.ensures.out_after c.put_word-in-4.ensures.value c.in-4.is refl c.requires

pub returns-in-5 : goal.returns-in-5
unfolding spoken ℕ_discrete
returns-in-5 c =
    arm c.args.told 5 _ _ _ _ _ c.put_word-in-5.ensures.out_after c.put_word-in-5.ensures.value c.in-5.is refl c.requires

pub returns-in-6 : goal.returns-in-6
unfolding spoken ℕ_discrete
returns-in-6 c =
    arm c.args.told 6 _ _ _ _ _ c.put_layout.ensures.out_after c.put_layout.ensures.value c.in-6.is refl c.requires

pub returns-in-7 : goal.returns-in-7
unfolding spoken ℕ_discrete
returns-in-7 c =
    arm c.args.told 7 _ _ _ _ _ c.put_clip.ensures.out_after c.put_clip.ensures.value c.in-7.is refl c.requires

pub returns-in_default : goal.returns-in_default
returns-in_default c =
    last c.args.told _ _ _ _ c.put_word-in_default.ensures.out_after c.put_word-in_default.ensures.value
    (((((((tt, λ e. omega arith), λ e. omega arith), λ e. omega arith), λ e. omega arith), λ e. omega arith), λ e. omega arith), λ e. omega arith)
    c.requires
