-- Whether a state is sound is told: yes with the proof that it is, or no with the proof that it is not.
use Rattle.std.specs.Prelude.{ℕ, ◌≡◌, refl, Bool, true, false}
use Rattle.std.proofs.Math.Logic.Dec
use Rattle.std.proofs.Math.Decide.{dec_le, ℕ_discrete}
use Rattle.std.proofs.Common.{arith}
use Rattle.show.specs.declared.Session.{Session}
use Rattle.show.specs.Decisions.{decided}
use Rattle.state.specs.declared.State.{State}
use Rattle.state.specs.State.{Waiting, StateSound}

-- one that holds only under another
abbrev pub when? : {p q : Type 0} → Dec p → Dec q → Dec (p → q)
when? (no n) d = yes (λ h. absurd (n h))
when? (yes h) (yes g) = yes (λ k. g)
when? (yes h) (no n) = no (λ f. n (f h))

unfoldable pub false? : (b : Bool) → Dec (b ≡ false)
false? true = no (λ e. let z : ◌≡◌ {A = ℕ} 0 1 = cc in let f : ⊥ = omega arith in f)
false? false = yes refl

unfoldable pub true? : (b : Bool) → Dec (b ≡ true)
true? true = yes refl
true? false = no (λ e. let z : ◌≡◌ {A = ℕ} 0 1 = cc in let f : ⊥ = omega arith in f)

unfoldable pub waiting? : (s : State) → Dec (Waiting s)
waiting? s =
    decided (λ h. record { taken = h.0; clock = h.1 }) (λ w. (w.taken, w.clock))
    (Dec.and (ℕ_discrete _ _) (ℕ_discrete _ _))

unfoldable pub state? : (started : Bool) (x : Session) (s : State) → Dec (StateSound started x s)
state? started x s =
    decided (λ h. record { put = h.0; taken = h.1.0; held = h.1.1.0; clock = h.1.1.1.0; early = h.1.1.1.1 })
    (λ b. (b.put, (b.taken, (b.held, (b.clock, b.early)))))
    (Dec.and (dec_le _ _)
    (Dec.and (dec_le _ _) (Dec.and (dec_le _ _) (Dec.and (dec_le _ _) (when? (false? started) (waiting? s))))))
