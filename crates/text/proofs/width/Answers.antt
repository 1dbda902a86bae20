-- As many digits as the powers of ten say. Assumes nothing.
use mathlib.Core.Path.{◌≡◌, ap}
use Prim.Native.Nat.{ℕ, zero, suc, ◌+◌, ◌*◌, ◌/◌, ◌^◌, ◌≤◌, ◌<◌, max}
use native.Mathlib.Nat.{pow-suc, pow-succ', le-div_iff_mul-le, one-le-pow}
use native.Mathlib.Decide.{dec_lt}
use native.Mathlib.Omega.{arith}
use lib.Dec.{lit<}
use lib.ListN.{length}
use Rattle.text.specs.Decimal.{decimal}
use Rattle.text.proofs.Digits.{decimal_few, decimal_last, decimal_least, one_less}
use Rattle.text.proofs.width.Goals as goal

decimal_many : (k n : ℕ) → n < 2 ^ 64 → 10 ^ k ≤ n → suc k ≤ length (decimal n)
decimal_many zero n b h = omega (arith, decimal_least n)
decimal_many (suc k) n b h =
    let p : 10 ^ k * 10 ≤ n = rw (← pow-suc 10 k) h in
    let i = decimal_many k (n / 10) (omega arith) ((le-div_iff_mul-le (lit< tt)).1 p) in
    omega (arith, one_less n b (omega (arith, one-le-pow k 10 (lit< tt))))

width_is : (n m k : ℕ) → m ≡ max n 1 → m < 2 ^ 64 → 10 ^ k ≤ m → m < 10 * 10 ^ k → k + 1 ≡ length (decimal n)
width_is n m k e b h g =
    omega (arith, decimal_many k m b h, decimal_few k m (rw (pow-succ' 10 k) g), same (dec_lt 0 n))
  where
    same : Dec (0 < n) → length (decimal m) ≡ length (decimal n)
    same (yes l) = let i : m ≡ n = omega arith in ap (λ (x : ℕ). length (decimal x)) i
    same (no l) = omega (arith, ap length (decimal_last m (omega arith)), ap length (decimal_last n (omega arith)))

-- by arithmetic: a body that comes to as many digits in another way is proved by it too
pub returns : goal.returns
returns c =
    omega (
      arith,
      width_is c.args.n c.max.result c.ilog10.result c.max.ensures c.max.type_inv c.ilog10.ensures.power_le c.ilog10.ensures.next_power_gt,
    )
