-- What callers may cite of the parts of a text. Assumes nothing.
use Prim.Native.Nat.{ℕ, zero, suc, ◌+◌, ◌≤◌}
use mathlib.Core.Path.{◌≡◌, sym, ◌∙◌}
use mathlib.Core.List.{List, []}
use native.Mathlib.Omega.{arith}
use lib.ListN.{length, drop, length-take, length-drop}
use Rattle.std.proofs.lemmas.List.{get_or_past}
use Rattle.parse.specs.Parts.{find_of, parts_of, rest_of, part_of}
use Rattle.parse.proofs.Chains.{parts_split, part_split}

pub part_within : (mark k : ℕ) (text : List ℕ) → length (part_of mark k text) ≤ length text
unfolding part_of rest_of
part_within mark zero text = simp length-take (omega arith)
part_within mark (suc k) text =
    let h = part_within mark k (drop (find_of mark text + 1) text) in
    omega (arith, length-drop (find_of mark text + 1) text)

-- nothing where there are fewer
pub part_none : (mark k : ℕ) (text : List ℕ) → parts_of mark text ≤ k → part_of mark k text ≡ []
part_none mark k text h = sym (part_split mark k text) ∙ get_or_past _ k [] (omega (arith, parts_split mark text))
