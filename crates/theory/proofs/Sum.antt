-- The laws of sums that the theory cites. Assumes nothing.
use Prim.Native.Nat.{ℕ, zero, suc, ◌+◌, ◌*◌, ◌≤◌, ◌<◌}
use mathlib.Core.Path.{◌≡◌, refl, sym, ◌∙◌, ap, subst}
use mathlib.Core.Logic.{ite, if_pos, if_neg}
use native.Mathlib.Omega.{arith}
use native.Mathlib.Numerals.{add-one}
use native.Mathlib.Nat.{le_refl, le_of_eq, le_antisymm, add-le-add, add-zero, zero-mul, add-mul}
use native.Mathlib.Decide.{dec_lt, le_ind}
use Rattle.theory.specs.Sum.{sum_to, sum_where}

pub sum_none : (f : ℕ → ℕ) → sum_to f 0 ≡ 0
unfolding sum_to
sum_none f = refl

pub sum_more : (f : ℕ → ℕ) (n : ℕ) → sum_to f (n + 1) ≡ sum_to f n + f n
unfolding sum_to
sum_more f n = rw add-one

pub sum_grows : (f g : ℕ → ℕ) (n : ℕ) → ((i : ℕ) → i < n → f i ≤ g i) → sum_to f n ≤ sum_to g n
unfolding sum_to
sum_grows f g zero h = le_refl 0
sum_grows f g (suc n) h = add-le-add (sum_grows f g n (λ i l. h i (omega arith))) (h n (omega arith))

-- Where every place is larger, the sum is larger by the number of places.
pub sum_grows_strictly : (f g : ℕ → ℕ) (n : ℕ) → ((i : ℕ) → i < n → f i < g i) → sum_to f n + n ≤ sum_to g n
unfolding sum_to
sum_grows_strictly f g zero h = le_refl 0
sum_grows_strictly f g (suc n) h =
    let p = sum_grows_strictly f g n (λ i l. h i (omega arith)) in let q = h n (omega arith) in omega arith

pub sum_same : (f g : ℕ → ℕ) (n : ℕ) → ((i : ℕ) → i < n → f i ≡ g i) → sum_to f n ≡ sum_to g n
unfolding sum_to
sum_same f g zero h = refl
sum_same f g (suc n) h =
    let p = sum_same f g n (λ i l. h i (omega arith)) in let q = h n (omega arith) in omega arith

-- Where one place is changed, the sum changes by as much.
pub sum_changed :
    (f g : ℕ → ℕ) (n j : ℕ) → j < n → ((i : ℕ) → i < n → (i ≡ j → ⊥) → f i ≡ g i) → sum_to g n + f j ≡ sum_to f n + g j
unfolding sum_to
sum_changed f g zero j l h = absurd (let none : ⊥ = omega arith in none)
sum_changed f g (suc n) j l h = elim (dec_lt j n) [
  | yes b ↦
      let p = sum_changed f g n j b (λ i m. h i (omega arith)) in
      let q = h n (omega arith) (λ e. let none : ⊥ = omega arith in none) in
      omega arith
  | no b ↦
      let p = sum_same f g n (λ i m. h i (omega arith) (λ e. let none : ⊥ = omega arith in none)) in
      let last : n ≡ j = omega arith in
      subst (λ (x : ℕ). sum_to g n + g n + f x ≡ sum_to f n + f n + g x) last (omega arith)
]

pub sum_longer : (f : ℕ → ℕ) {m n : ℕ} → m ≤ n → sum_to f m ≤ sum_to f n
unfolding sum_to
sum_longer f {m} {n} h = le_ind (λ k. sum_to f m ≤ sum_to f k) (le_refl (sum_to f m)) (λ k l g. omega arith) n h

pub sum_plus : (f g : ℕ → ℕ) (n : ℕ) → sum_to (λ i. f i + g i) n ≡ sum_to f n + sum_to g n
unfolding sum_to
sum_plus f g zero = refl
sum_plus f g (suc n) = let p = sum_plus f g n in omega arith

pub sum_times : (f : ℕ → ℕ) (k n : ℕ) → sum_to (λ i. f i * k) n ≡ sum_to f n * k
unfolding sum_to
sum_times f k zero = sym (zero-mul k)
sum_times f k (suc n) = ap (λ (x : ℕ). x + f n * k) (sum_times f k n) ∙ sym (add-mul (sum_to f n) (f n) k)

pub sum_capped : (f : ℕ → ℕ) (k n : ℕ) → ((i : ℕ) → i < n → f i ≤ k) → sum_to f n ≤ n * k
unfolding sum_to
sum_capped f k zero h = omega arith
sum_capped f k (suc n) h =
    let p = sum_capped f k n (λ i l. h i (omega arith)) in let q = h n (omega arith) in omega (arith, add-mul n 1 k)

-- A sum over some of the places below k, in their order, is at most the sum over all.
pub sum_part :
    (f : ℕ → ℕ) (e : ℕ → ℕ) (n k : ℕ) → ((i : ℕ) → i < n → e i < k) → ((i j : ℕ) → i < j → j < n → e i < e j) →
    sum_to (λ i. f (e i)) n ≤ sum_to f k
unfolding sum_to
sum_part f e zero k h r = omega arith
sum_part f e (suc n) k h r =
    let p : sum_to (λ i. f (e i)) n ≤ sum_to f (e n) =
    sum_part f e n (e n) (λ i b. r i n b (le_refl (suc n))) (λ i j a b. r i j a (omega arith)) in
    let q : sum_to f (suc (e n)) ≤ sum_to f k = sum_longer f (h n (omega arith)) in
    omega arith

-- ---- over some

part_most : {P : Type 0} (d : Dec P) (x : ℕ) → ite d x 0 ≤ x
part_most (yes h) x = le_refl x
part_most (no h) x = omega arith

part_grows : {P Q : Type 0} (d : Dec P) (e : Dec Q) (x y : ℕ) → (P → Q) → x ≤ y → ite d x 0 ≤ ite e y 0
part_grows (yes h) e x y f l = rw (if_pos e (f h) y 0) l
part_grows (no h) e x y f l = omega arith

pub where_none : {p : ℕ → Type 0} (d : (i : ℕ) → Dec (p i)) (f : ℕ → ℕ) → sum_where d f 0 ≡ 0
where_none d f = sum_none _

pub where_in :
    {p : ℕ → Type 0} (d : (i : ℕ) → Dec (p i)) (f : ℕ → ℕ) (n : ℕ) → p n → sum_where d f (n + 1) ≡ sum_where d f n + f n
where_in d f n h = sum_more _ n ∙ ap (λ (x : ℕ). sum_where d f n + x) (if_pos (d n) h (f n) 0)

pub where_out :
    {p : ℕ → Type 0} (d : (i : ℕ) → Dec (p i)) (f : ℕ → ℕ) (n : ℕ) → (p n → ⊥) → sum_where d f (n + 1) ≡ sum_where d f n
where_out d f n h =
    sum_more _ n ∙ ap (λ (x : ℕ). sum_where d f n + x) (if_neg (d n) h (f n) 0) ∙ add-zero (sum_where d f n)

pub where_most : {p : ℕ → Type 0} (d : (i : ℕ) → Dec (p i)) (f : ℕ → ℕ) (n : ℕ) → sum_where d f n ≤ sum_to f n
where_most d f n = sum_grows _ f n (λ i l. part_most (d i) (f i))

-- Over more, and of larger, the sum is no smaller.
pub where_grows :
    {p q : ℕ → Type 0} (d : (i : ℕ) → Dec (p i)) (e : (i : ℕ) → Dec (q i)) (f g : ℕ → ℕ) (n : ℕ) →
    ((i : ℕ) → i < n → p i → q i) → ((i : ℕ) → i < n → f i ≤ g i) → sum_where d f n ≤ sum_where e g n
where_grows d e f g n h k = sum_grows _ _ n (λ i l. part_grows (d i) (e i) (f i) (g i) (h i l) (k i l))

where_new_last :
    {p q : ℕ → Type 0} (d : (i : ℕ) → Dec (p i)) (e : (i : ℕ) → Dec (q i)) (f g : ℕ → ℕ) (n : ℕ) →
    ((i : ℕ) → i < suc n → p i → q i) → ((i : ℕ) → i < suc n → f i ≤ g i) → (p n → ⊥) → q n →
    sum_where d f (suc n) + g n ≤ sum_where e g (suc n)
unfolding sum_to
where_new_last d e f g n h k out new =
    let r : sum_where d f n ≤ sum_where e g n = where_grows d e f g n (λ i l. h i (omega arith)) (λ i l. k i (omega arith)) in
    let x = if_neg (d n) out (f n) 0 in
    let y = if_pos (e n) new (g n) 0 in
    omega arith

-- Where one of those is new, it is larger by that one.
pub where_new :
    {p q : ℕ → Type 0} (d : (i : ℕ) → Dec (p i)) (e : (i : ℕ) → Dec (q i)) (f g : ℕ → ℕ) (n j : ℕ) →
    ((i : ℕ) → i < n → p i → q i) → ((i : ℕ) → i < n → f i ≤ g i) → j < n → (p j → ⊥) → q j →
    sum_where d f n + g j ≤ sum_where e g n
unfolding sum_to
where_new d e f g zero j h k l out new = absurd (let none : ⊥ = omega arith in none)
where_new {p} {q} d e f g (suc n) j h k l out new = elim (dec_lt j n) [
  | yes b ↦
      let r = where_new d e f g n j (λ i m. h i (omega arith)) (λ i m. k i (omega arith)) b out new in
      let s = part_grows (d n) (e n) (f n) (g n) (h n (omega arith)) (k n (omega arith)) in
      omega arith
  | no b ↦
      let last : n ≡ j = omega arith in
      subst (λ (x : ℕ). (p x → ⊥) → q x → sum_where d f (suc n) + g x ≤ sum_where e g (suc n)) last
      (where_new_last d e f g n h k) out new
]

pub where_same :
    {p q : ℕ → Type 0} (d : (i : ℕ) → Dec (p i)) (e : (i : ℕ) → Dec (q i)) (f g : ℕ → ℕ) (n : ℕ) →
    ((i : ℕ) → i < n → p i → q i) → ((i : ℕ) → i < n → q i → p i) → ((i : ℕ) → i < n → f i ≡ g i) →
    sum_where d f n ≡ sum_where e g n
where_same d e f g n h b k =
    le_antisymm (where_grows d e f g n h (λ i l. le_of_eq (k i l))) (where_grows e d g f n b (λ i l. le_of_eq (sym (k i l))))
