-- The laws of integers that spare time cites, by the difference of two naturals: `sub_ℕ a b` is a - b. Assumes nothing.
use Prim.Native.Nat.{ℕ, zero, suc, ◌+◌, ◌-◌, ◌*◌, ◌≤◌, ◌<◌}
use mathlib.Core.Path.{◌≡◌, refl, sym, ◌∙◌, ap}
use mathlib.Core.Bool.{Bool, true, false, not}
use native.Mathlib.Omega.{arith}
use native.Mathlib.Nat.{le_antisymm, le_of_eq, le_of_lt, add-zero, sub-zero, mul_comm, mul-sub, mul-le-mul_right}
use native.Mathlib.Decide.{dec_le, dec_lt}
use lib.Dec.{T, leb→le, le→leb, ltb→lt, lt→ltb}
use lib.IntN.{ℤ, pos, negsuc, neg_ℤ, sub_ℕ, ◌+ℤ◌, ◌-ℤ◌, ◌*ℤ◌, +ℤ_assoc, +ℤ_comm, neg_ℤ-+ℤ}
use lib.Signed.{◌≤ℤ◌, ◌<ℤ◌, lt_z, le_z_yes, lt_z_yes, lt_z_no, <ℤ-≤ℤ_trans, clash_ℤ}
use borrow.Author.Tests.{lt-ltb, le-ltb}
use Rattle.theory.specs.Slack.{less?}

-- ---- the order

told_not : (b : Bool) → (T b → ⊥) → T (not b)
told_not true h = h tt
told_not false h = tt

pub not_less : {a b : ℤ} → (a <ℤ b → ⊥) → b ≤ℤ a
not_less {a} {b} h = lt_z_no (told_not (lt_z a b) (λ t. h (record { lt = t })))

pub less_at_most : (a b : ℤ) → a <ℤ b → a ≤ℤ b
less_at_most (pos a) (pos b) h = le_z_yes (le→leb a b (le_of_lt (ltb→lt a b h.lt)))
less_at_most (pos a) (negsuc b) h = absurd h.lt
less_at_most (negsuc a) (pos b) h = le_z_yes tt
less_at_most (negsuc a) (negsuc b) h = le_z_yes (le→leb b a (le_of_lt (ltb→lt b a h.lt)))

pub ≤ℤ-trans : {a b c : ℤ} → a ≤ℤ b → b ≤ℤ c → a ≤ℤ c
≤ℤ-trans {a} {b} {c} h k = elim (less? c a) [ yes l ↦ clash_ℤ (<ℤ-≤ℤ_trans l h) k | no n ↦ not_less n ]

pub ≤ℤ-antisymm : (a b : ℤ) → a ≤ℤ b → b ≤ℤ a → a ≡ b
≤ℤ-antisymm (pos a) (pos b) h k = ap pos (le_antisymm (leb→le a b h.le) (leb→le b a k.le))
≤ℤ-antisymm (pos a) (negsuc b) h k = absurd h.le
≤ℤ-antisymm (negsuc a) (pos b) h k = absurd k.le
≤ℤ-antisymm (negsuc a) (negsuc b) h k = ap negsuc (le_antisymm (leb→le a b k.le) (leb→le b a h.le))

-- ---- a difference, by the side that is larger

pub sub_ge : (a b : ℕ) → b ≤ a → sub_ℕ a b ≡ pos (a - b)
sub_ge a b h = rw (le-ltb a b h)

pub sub_lt : (a b : ℕ) → a < b → sub_ℕ a b ≡ negsuc (b - suc a)
sub_lt a b h = rw (lt-ltb a b h)

-- Each integer is one.
pub record Difference (z : ℤ) : Type 0 where
  pub plus : ℕ
  pub minus : ℕ
  pub is : z ≡ sub_ℕ plus minus

pub from_pos : (n : ℕ) → pos n ≡ sub_ℕ n 0
from_pos n = sym (sub_ge n 0 (omega arith) ∙ ap pos (sub-zero n))

pub from_negsuc : (n : ℕ) → negsuc n ≡ sub_ℕ 0 (suc n)
from_negsuc n = sym (sub_lt 0 (suc n) (omega arith) ∙ ap negsuc (omega arith))

pub difference : (z : ℤ) → Difference z
difference (pos n) = record { plus = n; minus = 0; is = from_pos n }
difference (negsuc n) = record { plus = 0; minus = suc n; is = from_negsuc n }

-- ---- differences compare by their cross sums

pub sub_le : (a b c d : ℕ) → a + d ≤ c + b → sub_ℕ a b ≤ℤ sub_ℕ c d
sub_le a b c d h = elim (dec_le b a) [
  | yes g ↦ let f : d ≤ c = omega arith in
      rw (sub_ge a b g, sub_ge c d f) (le_z_yes (le→leb (a - b) (c - d) (omega arith)))
  | no g ↦ elim (dec_le d c) [
    | yes f ↦ rw (sub_lt a b (omega arith), sub_ge c d f) (le_z_yes tt)
    | no f ↦ rw (sub_lt a b (omega arith), sub_lt c d (omega arith)) (le_z_yes (le→leb (d - suc c) (b - suc a) (omega arith)))
  ]
]

pub sub_below : (a b c d : ℕ) → a + d < c + b → sub_ℕ a b <ℤ sub_ℕ c d
sub_below a b c d h = elim (dec_le b a) [
  | yes g ↦ let f : d ≤ c = omega arith in
      rw (sub_ge a b g, sub_ge c d f) (lt_z_yes (lt→ltb (a - b) (c - d) (omega arith)))
  | no g ↦ elim (dec_le d c) [
    | yes f ↦ rw (sub_lt a b (omega arith), sub_ge c d f) (lt_z_yes tt)
    | no f ↦ rw (sub_lt a b (omega arith), sub_lt c d (omega arith)) (lt_z_yes (lt→ltb (d - suc c) (b - suc a) (omega arith)))
  ]
]

pub le_sub : (a b c d : ℕ) → sub_ℕ a b ≤ℤ sub_ℕ c d → a + d ≤ c + b
le_sub a b c d h = elim (dec_le (a + d) (c + b)) [ yes l ↦ l | no l ↦ clash_ℤ (sub_below c d a b (omega arith)) h ]

pub below_sub : (a b c d : ℕ) → sub_ℕ a b <ℤ sub_ℕ c d → a + d < c + b
below_sub a b c d h = elim (dec_lt (a + d) (c + b)) [ yes l ↦ l | no l ↦ clash_ℤ h (sub_le c d a b (omega arith)) ]

sub_same : (a b c d : ℕ) → a + d ≡ c + b → sub_ℕ a b ≡ sub_ℕ c d
sub_same a b c d e = ≤ℤ-antisymm _ _ (sub_le a b c d (le_of_eq e)) (sub_le c d a b (le_of_eq (sym e)))

-- ---- and are reckoned with by their parts

pub sub_pos : (a b : ℕ) → pos a -ℤ pos b ≡ sub_ℕ a b
sub_pos a zero = ap pos (add-zero a) ∙ from_pos a
sub_pos a (suc b) = refl

pub sub_more : (a b k : ℕ) → sub_ℕ a b +ℤ pos k ≡ sub_ℕ (a + k) b
sub_more a b k =
    ap (λ (z : ℤ). z +ℤ pos k) (sym (sub_pos a b)) ∙ +ℤ_assoc (pos a) (neg_ℤ (pos b)) (pos k)
    ∙ ap (λ (z : ℤ). pos a +ℤ z) (+ℤ_comm (neg_ℤ (pos b)) (pos k)) ∙ sym (+ℤ_assoc (pos a) (pos k) (neg_ℤ (pos b))) ∙ sub_pos (a + k) b

pub sub_less : (a b k : ℕ) → sub_ℕ a b -ℤ pos k ≡ sub_ℕ a (b + k)
sub_less a b k =
    ap (λ (z : ℤ). z -ℤ pos k) (sym (sub_pos a b)) ∙ +ℤ_assoc (pos a) (neg_ℤ (pos b)) (neg_ℤ (pos k))
    ∙ ap (λ (z : ℤ). pos a +ℤ z) (sym (neg_ℤ-+ℤ (pos b) (pos k))) ∙ sub_pos a (b + k)

minus_pos : (n : ℕ) → neg_ℤ (pos n) ≡ sub_ℕ 0 n
minus_pos zero = refl
minus_pos (suc n) = from_negsuc n

times_sub : (a b k : ℕ) → (a - b) * k ≡ a * k - b * k
times_sub a b k = rw (mul_comm (a - b) k, mul_comm a k, mul_comm b k) (mul-sub k a b)

pub sub_times : (a b k : ℕ) → sub_ℕ a b *ℤ pos k ≡ sub_ℕ (a * k) (b * k)
sub_times a b k = elim (dec_le b a) [
  | yes h ↦ rw (sub_ge a b h, sub_ge (a * k) (b * k) (mul-le-mul_right k h)) (ap pos (times_sub a b k))
  | no h ↦
      let m : suc (b - suc a) * k ≡ b * k - a * k = ap (λ (x : ℕ). x * k) (omega arith) ∙ times_sub b a k in
      let l : a * k ≤ b * k = mul-le-mul_right k (omega arith) in
      ap (λ (z : ℤ). z *ℤ pos k) (sub_lt a b (omega arith)) ∙ minus_pos (suc (b - suc a) * k)
      ∙ sub_same 0 (suc (b - suc a) * k) (a * k) (b * k) (omega arith)
]

pub less_grows : (a b : ℤ) (k l : ℕ) → a ≤ℤ b → l ≤ k → (a -ℤ pos k) ≤ℤ (b -ℤ pos l)
less_grows a b k l h m =
    let x = difference a in
    let y = difference b in
    let p : x.plus + y.minus ≤ y.plus + x.minus = le_sub _ _ _ _ (rw (x.is, y.is) at h) in
    rw (x.is, y.is, sub_less x.plus x.minus k, sub_less y.plus y.minus l)
    (sub_le x.plus (x.minus + k) y.plus (y.minus + l) (omega arith))

-- What is 0 or more after something is taken from it was so before.
pub less_kept : (a : ℤ) (k : ℕ) → pos 0 ≤ℤ (a -ℤ pos k) → pos 0 ≤ℤ a
less_kept a k h =
    let x = difference a in
    let p : 0 + (x.minus + k) ≤ x.plus + 0 = le_sub _ _ _ _ (rw (x.is, sub_less x.plus x.minus k, from_pos 0) at h) in
    rw (x.is, from_pos 0) (sub_le 0 0 x.plus x.minus (omega arith))
