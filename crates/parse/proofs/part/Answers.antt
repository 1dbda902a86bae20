-- `part` takes part k of the split. Assumes nothing.
use Rattle.std.proofs.Common.{rules, tests, ◌≡◌, ◌∙◌, ap, [], List, ℕ, refl, Bor}
use Rattle.std.specs.Prelude.{Option, Some, None}
use Rattle.std.specs.List.{slice_get, slice_split}
use Rattle.std.specs.Option.{option_map, unwrap_or}
use Rattle.std.proofs.lemmas.Iterator.Consumers.{nth_from_yields_List}
use Rattle.std.proofs.lemmas.Iterator.Splits.{YieldsList-from_slice_split}
use Rattle.std.proofs.lemmas.Option.{unwrap_or-slice_get}
use lib.Dec.{eqb}
use Rattle.parse.proofs.Chains.{part_split}
use Rattle.parse.proofs.part.Goals as goal

-- what a part or another stands for
now_or : (r : Option (Bor (List ℕ))) (d : Bor (List ℕ)) → (unwrap_or r d).now ≡ unwrap_or (option_map (λ x. x.now) r) d.now
now_or (Some x) d = refl
now_or None d = refl

pub returns : goal.returns
returns c =
    let e : option_map (λ x. x.now) c.nth.result ≡ slice_get (slice_split (λ b. eqb b c.args.mark) c.args.text.now) c.args.k =
    nth_from_yields_List _ _ _ c.nth.ensures.ran
    (YieldsList-from_slice_split _ (λ b. eqb b c.args.mark) _ (cc) (cc) refl
    (λ x b q k. search (rules, tests))) in
    ap (λ (x : Bor (List ℕ)). x.now) c.unwrap_or.ensures ∙ now_or c.nth.result _ ∙ ap (λ (o : Option (List ℕ)). unwrap_or o []) e
    ∙ unwrap_or-slice_get _ c.args.k [] ∙ part_split c.args.mark c.args.k c.args.text.now
