-- Sessions that stand apart below their count are each named once. Assumes nothing.
use Prim.Native.Nat.{ℕ, ◌≤◌, ◌<◌}
use mathlib.Core.Path.{◌≡◌, sym, ap, ◌∙◌}
use mathlib.Core.List.{List}
use native.Mathlib.Omega.{arith}
use lib.ListN.{length, get_or}
use Rattle.show.specs.Lists.{listed}
use Rattle.show.proofs.Lists.{listed_at}
use Rattle.run.specs.Sound.{NamedOnce, NamesEach}
use Rattle.run.proofs.Orders.{apart_names}
use Rattle.order.specs.Order.{named}
use Rattle.order.proofs.Orders.{named_back}

module _ (p : ℕ → ℕ) (l : List ℕ) where
  pub named_each :
      (n : ℕ) → n ≤ length l → ((i : ℕ) → i < n → p i < n) → ((i j : ℕ) → i < n → j < n → p i ≡ p j → i ≡ j) →
      NamesEach (named p n l) n
  named_each n few below apart i m =
      record {
        place = p i;
        inside = below i m;
        names = named_back p l n few below apart i m;
        only = λ k b e. only k b e (places k b);
      }
    where
      place : (k : ℕ) → k < n → get_or (listed p n) k 0 ≡ p k
      place k b = listed_at p n k 0 b

      places : NamesEach (listed p n) n
      places =
          apart_names (listed p n) n (λ k b. let e = place k b in let h = below k b in omega arith)
          (λ j k a b e. apart j k a b (sym (place j a) ∙ e ∙ place k b))

      only : (k : ℕ) (b : k < n) → get_or (named p n l) k 0 ≡ i → NamedOnce (listed p n) n k → k ≡ p i
      only k b e o =
          let s : p o.place ≡ k = sym (place o.place o.inside) ∙ o.names in
          let t : i ≡ o.place = sym e ∙ ap (λ (x : ℕ). get_or (named p n l) x 0) (sym s) ∙ named_back p l n few below apart o.place o.inside in
          sym s ∙ ap p (sym t)
