-- A sum over the numbers below n, over all of them or over some.
use Rattle.std.specs.Prelude.{ℕ, zero, suc, ◌+◌}
use Rattle.std.proofs.Math.Logic.{ite}

-- f 0 + .. + f (n - 1)
unfoldable pub sum_to : (ℕ → ℕ) → ℕ → ℕ
sum_to f zero = 0
sum_to f (suc n) = sum_to f n + f n

-- the sum of f over those of which p holds
abbrev pub sum_where : {p : ℕ → Type 0} → ((i : ℕ) → Dec (p i)) → (ℕ → ℕ) → ℕ → ℕ
sum_where d f n = sum_to (λ i. ite (d i) (f i) 0) n
