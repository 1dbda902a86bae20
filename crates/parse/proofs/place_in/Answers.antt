-- `place_in` takes the first place of the word among the parts. Assumes nothing.
use Rattle.std.proofs.Common.{rules, tests, ◌≡◌, ◌∙◌, sym}
use Rattle.std.specs.Str.{bytes_eq}
use Rattle.std.specs.List.{position_or_len, slice_split}
use Rattle.std.proofs.lemmas.Iterator.Search.{position_from_yields_List}
use Rattle.std.proofs.lemmas.Iterator.Splits.{YieldsList-from_slice_split}
use lib.Dec.{eqb}
use Rattle.parse.proofs.Chains.{place_or_end, parts_split, place_is}
use Rattle.parse.proofs.place_in.Goals as goal

pub returns : goal.returns
returns c =
    let parts = slice_split (λ b. eqb b 32) c.args.names.now in
    let e = position_from_yields_List (λ name. bytes_eq name c.args.word.now) _ _ c.position.result c.position.ensures.ran
    (YieldsList-from_slice_split _ (λ b. eqb b 32) c.args.names.now c.split.ensures.rest c.split.ensures.done c.split.ensures.closure
    (λ x b q k. search (rules, tests)))
    (λ x b q k. search (rules, tests)) in
    let n = c.parts.ensures ∙ sym (parts_split 32 c.args.names.now) in
    let r : c.unwrap_or.result ≡ position_or_len (λ name. bytes_eq name c.args.word.now) parts =
    c.unwrap_or.ensures ∙ rw (e, n) (place_or_end (λ name. bytes_eq name c.args.word.now) parts) in
    rw r (place_is c.args.names.now c.args.word.now)
