-- What holds of every refusal: the bound on its number, its place, and that it is known by the two. AllCases case of the enum is found by
-- search, so that a new one writes no clause here. Assumes nothing.
use Prim.Native.Nat.{ℕ, suc}
use mathlib.Core.Path.{◌≡◌, ap, subst}
use mathlib.Core.List.{List, [], ◌∷◌}
use mathlib.Core.Logic.{inl, inr}
use native.Mathlib.Omega.{arith}
use lib.Dec.{T, leb, leb→le}
use denote.Struct.Field.{Field}
use denote.Struct.Values.{Values}
use denote.Enum.Enum.{tag}
use denote.Enum.Declared.{rowss, Choice, intoss, tag_of}
use Rattle.show.specs.declared.refusal.Refusal.{Refusal}
use Rattle.show.specs.declared.refusal.Refusal.TheVariants.{LayoutLimits, SessionLimits}
use Rattle.show.specs.declared.refusal.Told.{Told}
use Rattle.show.specs.Limits.{Between}
use Rattle.show.specs.Refusals.{told_of, number_of, place_of, number_most}
use Rattle.show.specs.contracts.refusal.Refusal.{the_parts as parts, as_values, the_make as make, the_eta as eta, the_type}

-- ---- by the cases of an enum

-- each case has P; any two values of one case have P
pub data AllCases : (Fss : List (List Field)) → (Choice Fss → Type 0) → Type 2 where
  none : {P : Choice [] → Type 0} → AllCases [] P
  more :
      {Fs : List Field} {Fss : List (List Field)} {P : Choice (Fs ∷ Fss) → Type 0} → ((xs : Values Fs) → P (inl xs)) →
      AllCases Fss (λ c. P (inr c)) → AllCases (Fs ∷ Fss) P

data AllPairs : (Fss : List (List Field)) → (Choice Fss → Choice Fss → Type 0) → Type 2 where
  no_pair : {P : Choice [] → Choice [] → Type 0} → AllPairs [] P
  pair_more :
      {Fs : List Field} {Fss : List (List Field)} {P : Choice (Fs ∷ Fss) → Choice (Fs ∷ Fss) → Type 0} →
      ((xs ys : Values Fs) → P (inl xs) (inl ys)) → AllPairs Fss (λ c e. P (inr c) (inr e)) → AllPairs (Fs ∷ Fss) P

by_case : (Fss : List (List Field)) (P : Choice Fss → Type 0) → AllCases Fss P → (c : Choice Fss) → P c
by_case [] P none c = absurd c
by_case (Fs ∷ Fss) P (more h rest) (inl xs) = h xs
by_case (Fs ∷ Fss) P (more h rest) (inr c) = by_case Fss (λ e. P (inr e)) rest c

abbrev case : (Fss : List (List Field)) → Choice Fss → ℕ
case Fss c = tag (rowss Fss) (intoss Fss c)

by_pair :
    (Fss : List (List Field)) (P : Choice Fss → Choice Fss → Type 0) → AllPairs Fss P → (c e : Choice Fss) → case Fss c ≡ case Fss e → P c e
by_pair [] P no_pair c e t = absurd c
by_pair (Fs ∷ Fss) P (pair_more h rest) (inl xs) (inl ys) t = h xs ys
by_pair (Fs ∷ Fss) P (pair_more h rest) (inl xs) (inr e) t = absurd (let f : ⊥ = omega arith in f)
by_pair (Fs ∷ Fss) P (pair_more h rest) (inr c) (inl ys) t = absurd (let f : ⊥ = omega arith in f)
by_pair (Fs ∷ Fss) P (pair_more h rest) (inr c) (inr e) t = by_pair Fss (λ x y. P (inr x) (inr y)) rest c e (omega arith)

-- ---- of every refusal

pub every : (P : Refusal → Type 0) → AllCases parts (λ c. P (make c)) → (w : Refusal) → P w
every P h w = subst P (eta w) (by_case parts (λ c. P (make c)) h (as_values w))

-- the numbers are in the order of the enum
in_order : (w : Refusal) → number_of w ≡ suc (tag_of the_type w)
in_order = every (λ w. number_of w ≡ suc (tag_of the_type w)) (search (more, none) depth 60 fits 3000)

pub number_between : (w : Refusal) → Between 1 (number_of w) number_most
number_between w =
    let n = in_order w in
    let most = every (λ v. T (leb (number_of v) number_most)) (search (more, none, tt) depth 60 fits 3000) w in
    record { low = omega arith; high = leb→le _ _ most }

-- the two cases that hold a place
layout_same : {i j : ℕ} → i ≡ j → LayoutLimits i ≡ LayoutLimits j
layout_same e = ap LayoutLimits e

session_same : {i j : ℕ} → i ≡ j → SessionLimits i ≡ SessionLimits j
session_same e = ap SessionLimits e

abbrev SamePlace : Refusal → Refusal → Type 0
SamePlace v w = place_of v ≡ place_of w → v ≡ w

of_one_case : AllPairs parts (λ c d. SamePlace (make c) (make d))
of_one_case = search (pair_more, no_pair, layout_same, session_same) depth 60 fits 3000

-- a refusal is known by its number and its place
pub told_known : (v w : Refusal) → told_of v ≡ told_of w → v ≡ w
told_known v w e =
    let n = in_order v in
    let m = in_order w in
    let k = ap (λ (t : Told). t.number) e in
    let same = by_pair parts (λ c d. SamePlace (make c) (make d)) of_one_case (as_values v) (as_values w) (omega arith) in
    subst (SamePlace v) (eta w) (subst (λ (x : Refusal). SamePlace x (make (as_values w))) (eta v) same) (ap (λ (t : Told). t.place) e)
