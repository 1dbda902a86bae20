-- Rows of places: what stands at those in use, and the same in all above.
use Rattle.std.specs.Prelude.{ℕ, zero, suc, ◌-◌, List, [], ◌∷◌, ◌++◌, length, replicate}

-- f 0, .., f (n - 1)
unfoldable pub listed : {A : Type 0} → (ℕ → A) → ℕ → List A
listed f zero = []
listed f (suc n) = listed f n ++ (f n ∷ [])

-- k places: those of l, and z in the places above
unfoldable pub padded : {A : Type 0} → ℕ → A → List A → List A
padded k z l = l ++ replicate (k - length l) z
