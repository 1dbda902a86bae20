-- The verdict, by citation. Assumes nothing.
use Prim.Native.Nat.{ℕ, ◌<◌}
use mathlib.Core.Path.{◌≡◌, sym, ◌∙◌, ap, subst}
use Rattle.show.specs.declared.Show.{Show}
use Rattle.theory.specs.Counts.{Smallest}
use Rattle.theory.specs.Shows.{load_of}
use Rattle.theory.proofs.Rounds.{round_same}
use Rattle.verdict.specs.Answers.{accepted_with, set_of}
use Rattle.verdict.proofs.Sets.{set_of_row, row_smallest}
use Rattle.verdict.proofs.Decisions.{accepted_set, accepted_exactly}
use Rattle.verdict.proofs.Unused.{alike_decision}
use Rattle.trial.proofs.Unused.{alike_trial}
use Rattle.promises.specs.Verdict.{SmallestSet, Verdicts}

-- What is told of a set, the answer being its rows.
smallest_told : (s : Show) (m : ℕ → ℕ) → Smallest (load_of s) m → SmallestSet s (accepted_with (load_of s) m)
smallest_told s m h =
    let l = load_of s in
    let same : (i : ℕ) → i < l.playing → m i ≡ set_of (accepted_with l m).counts i = (λ i b. sym (set_of_row l m i b)) in
    let x = row_smallest l m h in
    record {
      good = x.good;
      least = x.least;
      times = λ i b. set_of_row l (λ k. (l.stream k).time (m k)) i b ∙ ap (l.stream i).time (same i b);
      round = round_same l m (set_of (accepted_with l m).counts) same;
    }

pub verdicts : Verdicts
verdicts =
    record {
      accepted_exactly = accepted_exactly;
      told = λ s d h e. (let a = accepted_set s d h e in subst (SmallestSet s) (sym a.answer) (smallest_told s a.set a.smallest));
      unused = alike_decision;
      unused_tried = alike_trial;
    }
