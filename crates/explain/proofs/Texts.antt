-- Laws of what is said of a file: that there is one text, and the text of what was answered. Assumes nothing.
use Rattle.std.specs.Prelude.{Ok, Err, Result}
use mathlib.Core.Path.{◌≡◌, sym, ap, ◌∙◌, subst}
use mathlib.Core.List.{List}
use Prim.Native.Nat.{ℕ}
use native.Mathlib.Omega.{arith}
use Rattle.show.specs.Outcomes.{Check}
use Rattle.show.specs.declared.refusal.Refusal.{Refusal}
use Rattle.show.proofs.Checks.{within_refused}
use Rattle.show.proofs.Shows.{within_check}
use Rattle.showfile.specs.declared.Reading.{Reading}
use Rattle.showfile.specs.Answers.{read_of}
use Rattle.showfile.proofs.Readable.{read_within}
use Rattle.theory.specs.Reasons.{tenths}
use Rattle.theory.specs.Shows.{load_of}
use Rattle.reason.specs.Answers.{Reasoned, ReasonIs, loaded_of}
use Rattle.reason.proofs.Answers.{load_told}
use Rattle.reason.proofs.Once.{reason_once}
use Rattle.explain.specs.Text.{reason_text, refusal_text}
use Rattle.explain.specs.Answers.{SaidIs, because, unread}

pub said_once : (f t u : List ℕ) → SaidIs f t → SaidIs f u → t ≡ u
said_once f t u (because r e a) (because s g b) =
    ap (λ (x : Reasoned). reason_text x (tenths (load_of (read_of f).show))) (reason_once (read_of f).show r s a b)
said_once f t u (because r e a) (unread w g) = within_refused (sym e ∙ g)
said_once f t u (unread w e) (because s g b) = within_refused (sym g ∙ e)
said_once f t u (unread v e) (unread w g) =
    let h : Err v ≡ Err w = sym e ∙ g in let same : v ≡ w = cc in ap refusal_text same

-- ---- the text of what was answered

-- Of a show that was read `load` answers the tenths.
load_read : (f : List ℕ) → (read_of f).check ≡ Ok tt → loaded_of (read_of f).show ≡ Ok (tenths (load_of (read_of f).show))
load_read f e = load_told (read_of f).show (within_check (read_of f).show (read_within f e))

-- What a call read: no show's file, ..
module _ (f : List ℕ) (g : Reading) (r : g ≡ read_of f) where
  checked : {c : Check} → g.check ≡ c → (read_of f).check ≡ c
  checked e = ap (λ (x : Reading). x.check) (sym r) ∙ e

  pub told_unread : (w : Refusal) → g.check ≡ Err w → SaidIs f (refusal_text w)
  told_unread w e = unread w (checked e)

  -- .. or a show: its reason, with the load that is answered, ..
  module _ (e : g.check ≡ Ok tt) (l : (Result ℕ Refusal)) (a : l ≡ loaded_of g.show) where
    answered : l ≡ Ok (tenths (load_of (read_of f).show))
    answered = a ∙ ap (λ (x : Reading). loaded_of x.show) r ∙ load_read f (checked e)

    pub told_reason : (t : ℕ) (y : Reasoned) → l ≡ Ok t → ReasonIs g.show y → SaidIs f (reason_text y t)
    told_reason t y h is =
        let both : Ok (tenths (load_of (read_of f).show)) ≡ Ok t = sym answered ∙ h in
        let same : tenths (load_of (read_of f).show) ≡ t = cc in
        subst (λ (n : ℕ). SaidIs f (reason_text y n)) same
        (because y (checked e) (subst (λ (x : Reading). ReasonIs x.show y) r is))

    -- .. which is not refused.
    pub never_refused : {X : Type 0} (w : Refusal) → l ≡ Err w → X
    never_refused w h =
        let both : Ok (tenths (load_of (read_of f).show)) ≡ Err w = sym answered ∙ h in
        let z : ◌≡◌ {A = ℕ} 0 1 = cc in
        absurd (let x : ⊥ = omega arith in x)
