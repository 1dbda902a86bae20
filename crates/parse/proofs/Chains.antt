-- The definitions in the library's words for chains: the first byte that is the mark, how many are, and what a split gives. Assumes nothing.
use Prim.Native.Nat.{ℕ, zero, suc, ◌+◌, ◌≤◌}
use mathlib.Core.Bool.{Bool, not}
use mathlib.Core.Path.{◌≡◌, refl, ap, sym, ◌∙◌}
use mathlib.Core.List.{List, [], ◌∷◌}
use mathlib.Core.Logic.{◌⊎◌, inl, inr, ⊎_elim, ite}
use native.Mathlib.Decide.{ℕ_discrete}
use native.Mathlib.Omega.{arith}
use lib.Dec.{eqb}
use lib.ListN.{length, take, drop, get_or}
use Rattle.std.specs.List.{position, position_or_len, count_by, slice_split, onto_first}
use Rattle.std.specs.Option.{unwrap_or}
use Rattle.std.specs.Str.{bytes_eq}
use Rattle.std.proofs.lemmas.Bool.{eq-eqb, ne_eqb}
use Rattle.std.proofs.lemmas.Bool.Decides.{nat_tests, not_from_Decides}
use Rattle.std.proofs.lemmas.List.Sums.{prefix_len-le-length, fails_before_first, passes_at_first}
use Rattle.std.proofs.lemmas.List.Splits.{length-slice_split}
use Rattle.std.proofs.lemmas.Slice.Eq.{bytes_eq-Decides}
use Rattle.parse.specs.Places.{PlaceIs}
use Rattle.parse.specs.Parts.{find_of, parts_of, rest_of, part_of}

-- the first place at which a test passes, or the end
pub place_or_end : {X : Type 0} (p : X → Bool) (xs : List X) → unwrap_or (position p xs) (length xs) ≡ position_or_len p xs
place_or_end p xs = let h = prefix_len-le-length (λ x. not (p x)) xs in grind (arith, nat_tests)

pub find_place : (mark : ℕ) (text : List ℕ) → position_or_len (λ b. eqb b mark) text ≡ find_of mark text
unfolding find_of
find_place mark [] = refl
find_place mark (b ∷ text) = from (ℕ_discrete b mark) (find_place mark text)
  where
    from : (d : Dec (b ≡ mark)) → position_or_len (λ c. eqb c mark) text ≡ find_of mark text →
        position_or_len (λ c. eqb c mark) (b ∷ text) ≡ ite d 0 (suc (find_of mark text))
    from (yes e) h = rw (eq-eqb b mark e)
    from (no e) h = rw (ne_eqb b mark e, h) (omega arith)

-- a byte that is no mark makes no part
onto_length : (b : ℕ) (parts : List (List ℕ)) → 1 ≤ length parts → length (onto_first b parts) ≡ length parts
onto_length b [] h = absurd (omega arith)
onto_length b (part ∷ parts) h = refl

pub parts_split : (mark : ℕ) (text : List ℕ) → length (slice_split (λ b. eqb b mark) text) ≡ parts_of mark text
unfolding parts_of
parts_split mark [] = refl
parts_split mark (b ∷ text) = from (ℕ_discrete b mark) (parts_split mark text)
  where
    from : (d : Dec (b ≡ mark)) → length (slice_split (λ c. eqb c mark) text) ≡ parts_of mark text →
        length (slice_split (λ c. eqb c mark) (b ∷ text)) ≡ ite d (suc (parts_of mark text)) (parts_of mark text)
    from (yes e) h = rw (eq-eqb b mark e) (ap suc h)
    from (no e) h = rw (ne_eqb b mark e) (onto_length b (slice_split (λ c. eqb c mark) text) (omega (arith, length-slice_split (λ c. eqb c mark) text)) ∙ h)

pub parts_count : (mark : ℕ) (text : List ℕ) → 1 + count_by (λ b. eqb b mark) text ≡ parts_of mark text
parts_count mark text = omega (arith, length-slice_split (λ b. eqb b mark) text, parts_split mark text)

-- the first part, and what the others are parts of
split_first :
    (mark : ℕ) (text : List ℕ) →
    (slice_split (λ b. eqb b mark) text ≡ take (find_of mark text) text ∷ slice_split (λ b. eqb b mark) (rest_of mark text))
    ⊎ ((slice_split (λ b. eqb b mark) text ≡ take (find_of mark text) text ∷ []) × (rest_of mark text ≡ []))
unfolding find_of rest_of
split_first mark [] = inr (refl, refl)
split_first mark (b ∷ text) = from (ℕ_discrete b mark) (split_first mark text)
  where
    p : ℕ → Bool
    p c = eqb c mark

    past : drop (find_of mark text + 1) text ≡ drop (suc (find_of mark text) + 1) (b ∷ text)
    past = let more : suc (find_of mark text) + 1 ≡ suc (find_of mark text + 1) = omega arith in rw more refl

    from :
        (d : Dec (b ≡ mark)) →
        (slice_split p text ≡ take (find_of mark text) text ∷ slice_split p (rest_of mark text))
        ⊎ ((slice_split p text ≡ take (find_of mark text) text ∷ []) × (rest_of mark text ≡ [])) →
        (slice_split p (b ∷ text)
        ≡ take (ite d 0 (suc (find_of mark text))) (b ∷ text) ∷ slice_split p (drop (ite d 0 (suc (find_of mark text)) + 1) (b ∷ text)))
        ⊎ ((slice_split p (b ∷ text) ≡ take (ite d 0 (suc (find_of mark text))) (b ∷ text) ∷ [])
        × (drop (ite d 0 (suc (find_of mark text)) + 1) (b ∷ text) ≡ []))
    from (yes e) h = inl (rw (eq-eqb b mark e))
    from (no e) (inl f) = inl (rw (ne_eqb b mark e) (ap (onto_first b) f ∙ ap (λ (t : List ℕ). (b ∷ take (find_of mark text) text) ∷ slice_split p t) past))
    from (no e) (inr f) = inr (rw (ne_eqb b mark e) (ap (onto_first b) f.0), sym past ∙ f.1)

-- of no text
part_empty : (mark k : ℕ) → part_of mark k [] ≡ []
unfolding part_of rest_of find_of
part_empty mark zero = refl
part_empty mark (suc k) = part_empty mark k

pub part_split : (mark k : ℕ) (text : List ℕ) → get_or (slice_split (λ b. eqb b mark) text) k [] ≡ part_of mark k text
unfolding part_of
part_split mark zero text = ⊎_elim (λ e. rw e) (λ e. rw e.0) (split_first mark text)
part_split mark (suc k) text =
    ⊎_elim (λ e. rw e (part_split mark k (rest_of mark text))) (λ e. rw (e.0, e.1) (sym (part_empty mark k))) (split_first mark text)

-- the place of a word among the parts
pub place_is : (names word : List ℕ) → PlaceIs names word (position_or_len (λ name. bytes_eq name word) (slice_split (λ b. eqb b 32) names))
place_is names word =
    let count = parts_split 32 names in
    let is : List ℕ → Bool = λ name. bytes_eq name word in
    record {
      within = rw (← count) (prefix_len-le-length (λ name. not (bytes_eq name word)) (slice_split (λ b. eqb b 32) names));
      before = λ k l e.
          not_from_Decides _ (bytes_eq-Decides _ word) (fails_before_first is (slice_split (λ b. eqb b 32) names) k [] l) (part_split 32 k names ∙ e);
      found = λ l.
          sym (part_split 32 _ names)
          ∙ (bytes_eq-Decides _ word).0 (passes_at_first is (slice_split (λ b. eqb b 32) names) [] (omega arith));
    }
