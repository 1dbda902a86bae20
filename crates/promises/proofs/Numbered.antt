-- The numbers of the refusals, and that an answer is known by what it comes to in numbers. Assumes nothing.
use Rattle.std.specs.Prelude.{Ok, Err, Some, None, true, false}
use Prim.Native.Nat.{ℕ}
use mathlib.Core.Path.{◌≡◌, refl, sym, ap, ◌∙◌}
use mathlib.Core.List.{List, [], ◌∷◌}
use mathlib.Core.Logic.{inl, inr}
use native.Mathlib.Omega.{arith}
use lib.IntN.{ℤ, pos, negsuc}
use lib.ListN.{get_or}
use Rattle.show.specs.declared.refusal.Refusal.{Refusal}
use Rattle.show.specs.declared.refusal.Refusal.TheVariants.{Damaged}
use Rattle.show.specs.Outcomes.{Outcome, granted, refused_by, check_outcome}
use Rattle.show.proofs.Refusals.{more, none, every, number_between, told_known}
use Rattle.cost.specs.WorstTimes.{worst_outcome}
use Rattle.count.specs.Answers.{asked_outcome}
use Rattle.verdict.specs.Answers.{verdict_outcome}
use Rattle.trial.specs.Answers.{answer_outcome}
use Rattle.reason.specs.declared.Reason.TheVariants as reason
use Rattle.reason.specs.Answers.{Reasoned, reason_outcome, loaded_outcome}
use Rattle.run_test.specs.declared.Test.TheVariants as test
use Rattle.run_test.specs.Answers.{test_outcome}
use Rattle.scheduler.specs.declared.Choice.{Choice}
use Rattle.scheduler.specs.declared.Choice.TheVariants as choice
use Rattle.scheduler.specs.Answers.{choice_outcome}
use Rattle.workahead.specs.Answers.{spare_outcome}
use Rattle.promises.specs.Refusals.{KnownBy, Known, Numbered}

-- ---- answers

-- An answer grants values or refuses, and comes to what it then comes to.
module _ {A : Type 0} (outcome : A → Outcome) (grants : List ℤ → A) (refuses : Refusal → A) where
  data Form : A → Type 0 where
    granting : {a : A} → outcome a ≡ granted (outcome a).values → grants (outcome a).values ≡ a → Form a
    refusing : {a : A} (w : Refusal) → outcome a ≡ refused_by w → refuses w ≡ a → Form a

  differ : {X : Type 0} (w : Refusal) (l : List ℤ) → granted l ≡ refused_by w → X
  differ w l e =
      let n = (number_between w).low in
      let k = ap (λ (o : Outcome). o.number) e in
      absurd (let f : ⊥ = omega arith in f)

  -- So it is known.
  known_by : ((a : A) → Form a) → KnownBy outcome
  known_by form a b e = from (form a) (form b)
    where
      from : Form a → Form b → a ≡ b
      from (granting f g) (granting h k) = sym g ∙ ap (λ (o : Outcome). grants o.values) e ∙ k
      from (granting f g) (refusing w h k) = differ w (outcome a).values (sym f ∙ e ∙ h)
      from (refusing v f g) (granting h k) = differ v (outcome b).values (sym (sym f ∙ e ∙ h))
      from (refusing v f g) (refusing w h k) =
          sym g
          ∙ ap refuses (told_known v w (ap (λ (o : Outcome). record { number = o.number; place = o.place }) (sym f ∙ e ∙ h)))
          ∙ k

-- a value, where it is not below zero
abbrev sized : ℤ → ℕ
sized (pos n) = n
sized (negsuc n) = 0

abbrev value_at : ℕ → List ℤ → ℕ
value_at k l = sized (get_or l k (pos 0))

abbrev chosen_from : List ℤ → Choice
chosen_from [] = choice.Idle
chosen_from (z ∷ l) = choice.Read (sized z)

abbrev reason_from : List ℤ → Reasoned
reason_from l = get_or ((Ok None) ∷ (Ok (Some reason.Overload)) ∷ (Ok (Some reason.Beyond)) ∷ []) (value_at 0 l) (Ok (Some (reason.Buffer (value_at 1 l) (value_at 2 l))))

known : Known
known =
    record {
      check = known_by check_outcome (λ l. (Ok tt)) Err
          (λ a. elim a as (λ k. Form check_outcome (λ l. (Ok tt)) Err k) [ (Ok tt) ↦ granting refl refl | Err w ↦ refusing w refl refl ]);
      worst = known_by worst_outcome (λ l. Ok (value_at 0 l)) Err
          (λ a. elim a as (λ k. Form worst_outcome (λ l. Ok (value_at 0 l)) Err k) [ Ok t ↦ granting refl refl | Err w ↦ refusing w refl refl ]);
      asked = known_by asked_outcome (λ l. Ok (value_at 0 l)) Err
          (λ a. elim a as (λ k. Form asked_outcome (λ l. Ok (value_at 0 l)) Err k) [ Ok m ↦ granting refl refl | Err w ↦ refusing w refl refl ]);
      verdict = known_by verdict_outcome (λ l. (Ok tt)) Err
          (λ a. elim a as (λ k. Form verdict_outcome (λ l. (Ok tt)) Err k) [ (Ok tt) ↦ granting refl refl | Err w ↦ refusing w refl refl ]);
      answer = known_by answer_outcome (λ l. get_or ((Ok false) ∷ []) (value_at 0 l) (Ok true)) Err
          (λ a. elim a as (λ k. Form answer_outcome (λ l. get_or ((Ok false) ∷ []) (value_at 0 l) (Ok true)) Err k) [ (Ok true) ↦ granting refl refl | (Ok false) ↦ granting refl refl | Err w ↦ refusing w refl refl ]);
      reason = known_by reason_outcome reason_from Err
          (λ a.
          elim a as (λ k. Form reason_outcome reason_from Err k) [
            | (Ok None) ↦ granting refl refl
            | (Ok (Some reason.Overload)) ↦ granting refl refl
            | (Ok (Some reason.Beyond)) ↦ granting refl refl
            | Ok (Some (reason.Buffer i size)) ↦ granting refl refl
            | Err w ↦ refusing w refl refl
          ]);
      loaded = known_by loaded_outcome (λ l. Ok (value_at 0 l)) Err
          (λ a. elim a as (λ k. Form loaded_outcome (λ l. Ok (value_at 0 l)) Err k) [ Ok n ↦ granting refl refl | Err w ↦ refusing w refl refl ]);
      test = known_by test_outcome (λ l. test.Sound) (λ w. test.Damaged)
          (λ a. elim a as (λ k. Form test_outcome (λ l. test.Sound) (λ w. test.Damaged) k) [ test.Sound ↦ granting refl refl | test.Damaged ↦ refusing Damaged refl refl ]);
      choice = known_by choice_outcome chosen_from choice.Refused
          (λ a. elim a as (λ k. Form choice_outcome chosen_from choice.Refused k) [ choice.Idle ↦ granting refl refl | choice.Read i ↦ granting refl refl | choice.Refused w ↦ refusing w refl refl ]);
      spare = known_by spare_outcome (λ l. Ok (get_or l 0 (pos 0))) Err
          (λ a. elim a as (λ k. Form spare_outcome (λ l. Ok (get_or l 0 (pos 0))) Err k) [ Ok z ↦ granting refl refl | Err w ↦ refusing w refl refl ]);
    }

pub numbered : Numbered
numbered =
    record {
      number = number_between;
      known = told_known;
      place = every _ (search (more, none, inl, inr) depth 60 fits 3000);
      answers = known;
    }
