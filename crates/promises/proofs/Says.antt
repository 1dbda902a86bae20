-- What a refusal is told apart by, and the law by which a call whose order is known says none but some of the numbers. Assumes nothing.
use Rattle.std.specs.Prelude.{Result, Ok, Err}
use Prim.Native.Nat.{ℕ, ◌<◌}
use mathlib.Core.Path.{◌≡◌, refl, sym, ap, subst, ◌∙◌}
use mathlib.Core.Bool.{Bool, true, false, ◌||◌}
use mathlib.Core.List.{List, [], ◌∷◌}
use mathlib.Core.Logic.{inl, inr}
use native.Mathlib.Omega.{arith}
use lib.Dec.{T, eqb, eqb→eq}
use Rattle.show.specs.Outcomes.{Check}
use Rattle.show.specs.declared.Show.{Show}
use Rattle.show.specs.declared.refusal.Refusal.{Refusal}
use Rattle.show.specs.Limits.{layout_at, session_at}
use Rattle.show.specs.Decisions.{layout?, session?}
use Rattle.show.specs.Refusals.{number_of}
use Rattle.show.specs.Outcomes.{Outcome, refused_by}
use Rattle.show.proofs.Checks.{within_refused}
use Rattle.showfile.specs.Answers.{shown_at}
use Rattle.run.specs.Opening.{opened_by}
use Rattle.promises.specs.Refusals.{OneOf, Says}
use Rattle.promises.specs.Order.{Grants, ◌when◌else◌, Row, LimitsThen, ShowThen, FileThen, trailer_at, trailer_in}
use Rattle.promises.proofs.Numbered.{numbered}

-- ---- refusals told apart, alone and inside other answers

pub same_refusal : {A : Type 0} {v w : Refusal} → ◌≡◌ {A = Result A Refusal} (Err v) (Err w) → v ≡ w
same_refusal e = cc

pub granted_refused : {A X : Type 0} {a : A} {w : Refusal} → ◌≡◌ {A = Result A Refusal} (Ok a) (Err w) → X
granted_refused e = let z : ◌≡◌ {A = ℕ} 0 1 = cc in absurd (let f : ⊥ = omega arith in f)

module _ (s : Show) (c : List ℕ) where
  pub opened_refused : (v : Check) (w : Refusal) → (opened_by s c v).check ≡ Err w → v ≡ Err w
  opened_refused (Ok tt) w e = within_refused e
  opened_refused (Err v) w e = ap Err (same_refusal e)

-- ---- one of some numbers

abbrev has : List ℕ → ℕ → Bool
has [] n = false
has (k ∷ l) n = eqb n k || has l n

one_of : (l : List ℕ) (n : ℕ) → T (has l n) → OneOf l n
one_of [] n t = t
one_of (k ∷ l) n t = from (eqb n k) refl t (one_of l n)
  where
    from : (b : Bool) → eqb n k ≡ b → T (b || has l n) → (T (has l n) → OneOf l n) → OneOf (k ∷ l) n
    from true e s rest = inl (eqb→eq n k (subst T (sym e) tt))
    from false e s rest = inr (rest s)

-- a number of the list, or 0, as a test that computes
abbrev Named : List ℕ → ℕ → Type 0
Named l n = T (has (0 ∷ l) n)

-- What is told has one of these numbers, or nothing is refused.
abbrev pub Among : List ℕ → Outcome → Type 0
Among l o = Named l o.number

-- An answer that comes to such an outcome says no other number.
pub says :
    {A : Type 0} (refused : Refusal → A) (outcome : A → Outcome) → ((w : Refusal) → outcome (refused w) ≡ refused_by w) →
    (l : List ℕ) (a : A) → Among l (outcome a) → Says refused a l
says refused outcome known l a h w e = from (one_of (0 ∷ l) (number_of w) (subst (Among l) (ap outcome e ∙ known w) h))
  where
    from : OneOf (0 ∷ l) (number_of w) → OneOf l (number_of w)
    from (inl z) = let n = (numbered.number w).low in absurd (let f : ⊥ = omega arith in f)
    from (inr m) = m

-- ---- orders

-- A test that does not fail is passed.
stable : (b : Bool) → ((T b → ⊥) → ⊥) → T b
stable true h = tt
stable false h = absurd (h (λ t. t))

module _ (l : List ℕ) {o : Outcome} where
  pub grants_among : Grants o → Among l o
  grants_among e = subst (Among l) (sym e) tt

  module _ {n : ℕ} {rest : Outcome → Type 0} (named : Named l n) (then : rest o → Among l o) where
    pub when_among : {fault : Type 0} → (n when fault else rest) o → Among l o
    when_among t =
        stable (has (0 ∷ l) o.number) (λ none. none (then (t.absent (λ b. none (subst (Among l) (sym (t.present b)) named)))))

    row_among : {kept : ℕ → Type 0} {count : ℕ} → ((i : ℕ) → Dec (kept i)) → Row n kept count rest o → Among l o
    row_among {kept} {count} told t =
        stable (has (0 ∷ l) o.number) (λ none. none (then (t.absent (λ i b. from none i b (told i)))))
      where
        from : (Among l o → ⊥) → (i : ℕ) → i < count → Dec (kept i) → kept i
        from none i b (yes k) = k
        from none i b (no k) = absurd (none (subst (Among l) (sym (t.present i b k).1.1) named))

  module _ {rest : Outcome → Type 0} (five : Named l 5) (six : Named l 6) (seven : Named l 7) (then : rest o → Among l o) where
    pub limits_among : (s : Show) → LimitsThen s rest o → Among l o
    limits_among s =
        when_among five
        (row_among six (row_among seven then (λ i. session? s.laid (session_at s i))) (λ i. layout? (layout_at s i)))

    pub show_among : (s : Show) → Named l 2 → ShowThen s rest o → Among l o
    show_among s two = when_among two (limits_among s)

    pub file_among : (f : List ℕ) → Named l 1 → Named l 2 → Named l 3 → Named l 4 → FileThen f rest o → Among l o
    file_among f one two three four =
        when_among one
        (when_among two (when_among three (when_among four (limits_among (shown_at f (trailer_at f) (trailer_in f))))))
