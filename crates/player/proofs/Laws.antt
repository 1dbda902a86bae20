-- A take, granted or refused: granted, G has moved forward and the state is sound; refused, it is the state that was given. Assumes nothing.
use Rattle.std.specs.Prelude.{Ok, Err}
use Prim.Native.Nat.{ℕ, ◌-◌, ◌≤◌}
use mathlib.Core.Path.{◌≡◌, refl, sym, subst, ◌∙◌}
use mathlib.Core.Bool.{Bool, true}
use native.Mathlib.Decide.{dec_le}
use Rattle.show.specs.Outcomes.{Check}
use Rattle.show.specs.declared.Session.{Session}
use Rattle.show.specs.declared.refusal.Refusal.{Refusal}
use Rattle.show.specs.declared.refusal.Refusal.TheVariants as refusal
use Rattle.show.specs.Checks.{first}
use Rattle.show.proofs.Checks.{within_refused, unless_within, first_left, first_right}
use Rattle.state.specs.declared.State.{State}
use Rattle.state.specs.State.{StateSound, drawn}
use Rattle.state.specs.Decisions.{true?, state?}
use Rattle.state.proofs.States.{drawn_sound}
use Rattle.player.specs.Answers.{state_check, early_check, held_check, take_check, drawn_by, drawn_of}

-- What a granted take rests on.
record Grants (s : State) (x : Session) (b : Bool) (n : ℕ) : Type 0 where
  sound : StateSound b x s
  started : b ≡ true
  held : n ≤ s.put - s.taken

-- ---- by the check

module _ (k : Check) (s next : State) where
  by_check : (drawn_by k s next).check ≡ k
  by_check = from k
    where
      from : (j : Check) → (drawn_by j s next).check ≡ j
      from (Ok tt) = refl
      from (Err w) = refl

  by_granted : k ≡ Ok tt → (drawn_by k s next).state ≡ next
  by_granted e = from k e
    where
      from : (j : Check) → j ≡ Ok tt → (drawn_by j s next).state ≡ next
      from (Ok tt) f = refl
      from (Err w) f = within_refused (sym f)

  by_refused : (w : Refusal) → k ≡ Err w → (drawn_by k s next).state ≡ s
  by_refused w e = from k e
    where
      from : (j : Check) → j ≡ Err w → (drawn_by j s next).state ≡ s
      from (Ok tt) f = within_refused f
      from (Err v) f = refl

-- ---- a take

module _ (s : State) (x : Session) (started : Bool) (n : ℕ) where
  -- the answer is that of the tests
  pub take_answers : (drawn_of s x started n).check ≡ take_check started x s n
  unfolding drawn_of
  take_answers = by_check (take_check started x s n) s (drawn n s)

  grants : take_check started x s n ≡ Ok tt → Grants s x started n
  unfolding take_check
  grants e =
      let late = first (early_check started) (held_check s n) in
      let a = first_right (state_check started x s) late e in
      record {
        sound = unless_within (state? started x s) refusal.Damaged (first_left (state_check started x s) late e);
        started = unless_within (true? started) refusal.NotStarted (first_left (early_check started) (held_check s n) a);
        held = unless_within (dec_le n (s.put - s.taken)) refusal.TooMuch (first_right (early_check started) (held_check s n) a);
      }

  -- granted, G has moved forward by n and nothing else
  pub granted_draws : (drawn_of s x started n).check ≡ Ok tt → (drawn_of s x started n).state ≡ drawn n s
  unfolding drawn_of
  granted_draws e = by_granted (take_check started x s n) s (drawn n s) (sym take_answers ∙ e)

  -- and the state after it is sound, as the one before it was
  pub granted_sound : (drawn_of s x started n).check ≡ Ok tt → StateSound true x (drawn_of s x started n).state
  granted_sound e =
      let g = grants (sym take_answers ∙ e) in
      let h = drawn_sound g.sound n g.started g.held in
      subst (StateSound true x) (sym (granted_draws e)) (subst (λ (b : Bool). StateSound b x (drawn n s)) g.started h)

  -- refused, the state is the one that was given
  pub refused_back : (w : Refusal) → (drawn_of s x started n).check ≡ Err w → (drawn_of s x started n).state ≡ s
  unfolding drawn_of
  refused_back w e = by_refused (take_check started x s n) s (drawn n s) w (sym take_answers ∙ e)
