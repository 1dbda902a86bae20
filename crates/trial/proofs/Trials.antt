-- Whether given counts hold, by their times. Assumes nothing.
use Rattle.std.specs.Prelude.{Ok, Result, Bool, true, false}
use Prim.Native.Nat.{ℕ, ◌*◌}
use mathlib.Core.Path.{◌≡◌, refl, sym, subst}
use mathlib.Core.List.{List}
use native.Mathlib.Omega.{arith}
use native.Mathlib.Nat.{le_trans}
use lib.Dec.{leb}
use Rattle.show.specs.declared.refusal.Refusal.{Refusal}
use Rattle.show.specs.declared.Show.{Show}
use Rattle.std.proofs.lemmas.Bool.Decides.{nat_tests}
use Rattle.show.specs.declared.Session.{Session}
use Rattle.show.specs.Limits.{ShowWithin, Tells}
use Rattle.theory.specs.Counts.{unit, round_time, Good}
use Rattle.theory.specs.Rounds.{need}
use Rattle.theory.specs.Shows.{load_of}
use Rattle.count.specs.Answers.{Buffered}
use Rattle.theory.proofs.Rounds.{need_enough, need_least, need_some, unit_some}
use Rattle.theory.proofs.Shows.{show_sound}
use Rattle.verdict.specs.Answers.{times_of, set_of}
use Rattle.trial.specs.Answers.{trial_of, timed_as, TrialIs, holds, fails}
use Rattle.trial.specs.Steps.{Held, Holds}

-- What the last test tells.
pub held_tells :
    (A : ℕ) (x : Session) (t m least : ℕ) → Buffered A x m → least ≡ need x.rate (A * 1000000) t → Tells (leb least m) (Held A x t m)
held_tells A x t m least room e = from (leb least m) refl
  where
    from : (b : Bool) → leb least m ≡ b → Tells b (Held A x t m)
    from true h = record { room = room; ahead = grind (arith, nat_tests) }
    from false h = λ g. (let a = g.ahead in grind (arith, nat_tests))

-- Counts that hold over their own round are a good set, and the other way round: N1.
module _ (s : Show) (w : ShowWithin s) (m : ℕ → ℕ) where
  pub holds_good : Holds (load_of s) (round_time (load_of s) m) m → Good (load_of s) m
  holds_good h =
      record {
        counted = λ i l. le_trans (need_some ((load_of s).stream i).rate (unit (load_of s)) (round_time (load_of s) m)) (h.ahead i l);
        augmenting = λ i l. need_enough _ _ _ _ (unit_some (load_of s) (show_sound s w)) (h.ahead i l);
        feasible = h.room;
      }

  pub good_holds : Good (load_of s) m → Holds (load_of s) (round_time (load_of s) m) m
  good_holds g =
      record {
        room = g.feasible;
        ahead = λ i l. need_least _ _ _ _ (unit_some (load_of s) (show_sound s w)) (g.augmenting i l);
      }

-- What is answered of given counts, by their times.
module _
    (s : Show) (w : ShowWithin s) (m : List ℕ) (round : ℕ) (times : List ℕ) (e : round ≡ round_time (load_of s) (set_of m))
    (f : times ≡ times_of (load_of s) (set_of m))
  where
    same : (a : (Result Bool Refusal)) → trial_of a round times ≡ timed_as a (load_of s) (set_of m)
    same a = λ i. record { answer = a; round = e i; times = f i }

    abbrev Over : ℕ → Type 0
    Over t = Holds (load_of s) t (set_of m)

    pub trial_holds : Over round → TrialIs s m (trial_of (Ok true) round times)
    trial_holds h = subst (TrialIs s m) (sym (same (Ok true))) (holds w (holds_good s w (set_of m) (subst Over e h)))

    pub trial_fails : (Over round → ⊥) → TrialIs s m (trial_of (Ok false) round times)
    trial_fails none =
        subst (TrialIs s m) (sym (same (Ok false))) (fails w (λ g. none (subst Over (sym e) (good_holds s w (set_of m) g))))

    pub trial_told : (b : Bool) → Tells b (Over round) → TrialIs s m (trial_of (Ok b) round times)
    trial_told true h = trial_holds h
    trial_told false none = trial_fails none
