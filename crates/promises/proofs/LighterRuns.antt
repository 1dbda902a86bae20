-- Spare time: lighter runs, by the laws of lighter runs; and pairs of runs in numbers, one of which shows that the proviso is needed.
-- Assumes nothing.
use Rattle.std.specs.Prelude.{Ok}
use Prim.Native.Nat.{ℕ, ◌<◌}
use mathlib.Core.Path.{◌≡◌, sym, subst}
use lib.IntN.{ℤ, pos}
use lib.Signed.{◌≤ℤ◌}
use Rattle.show.specs.declared.Show.{Show}
use Rattle.theory.specs.Counts.{Smallest}
use Rattle.theory.specs.Shows.{load_of}
use Rattle.theory.proofs.Integers.{≤ℤ-trans}
use Rattle.verdict.specs.Answers.{set_of}
use Rattle.run.specs.declared.Run.{Run}
use Rattle.run.specs.Run.{playing}
use Rattle.spare.specs.Answers.{workahead_of, slack_of}
use Rattle.spare.specs.Laws.{Steady, Lightly}
use Rattle.spare.proofs.Laws.{workahead_told, slack_told}
use Rattle.spare.proofs.Lighter.{ahead_lighter, spare_lighter, spare_kept}
use Rattle.promises.specs.Runs.{RunOf}
use Rattle.promises.specs.Lighter as specs
use Rattle.promises.proofs.Runs.{always}
use Rattle.promises.proofs.Compared.{one_left, half_rate, worse}

workahead :
    (a b : Run) (e : ℕ → ℕ) → Lightly a b e → (i : ℕ) (y z : ℤ) → Steady a b i (e i) → (workahead_of a i).spare ≡ Ok z →
    (workahead_of b (e i)).spare ≡ Ok y → y ≤ℤ z
workahead a b e h i y z c p q =
    let s = workahead_told a i z p in
    let t = workahead_told b (e i) y q in
    rw (s.1, t.1) (ahead_lighter a b e h i s.0 c)

module _ (a b : Run) (e : ℕ → ℕ) (h : Lightly a b e) (y z : ℤ) where
  slack : ((i : ℕ) → i < playing a → Steady a b i (e i)) → (slack_of a).spare ≡ Ok z → (slack_of b).spare ≡ Ok y → y ≤ℤ z
  slack c p q =
      let s = slack_told a z p in
      let t = slack_told b y q in
      rw (s.1, t.1) (spare_lighter a b e h s.0 c)

  kept : (slack_of a).spare ≡ Ok z → (slack_of b).spare ≡ Ok y → pos 0 ≤ℤ y → y ≤ℤ z
  kept p q n =
      let s = slack_told a z p in
      let t = slack_told b y q in
      rw (s.1, t.1) (spare_kept a b e h s.0 (rw t.1 at n))

smallest : (s : Show) (r : Run) → RunOf s r → Smallest (load_of r.show) (set_of r.counts)
smallest s r h = let x = always s r h in subst (λ (t : Show). Smallest (load_of t) (set_of r.counts)) (sym x.show) x.smallest

pub lighter_runs : specs.LighterRuns
lighter_runs =
    record {
      workahead = workahead;
      slack = slack;
      kept = kept;
      enough = λ a b e h y z p q n. ≤ℤ-trans n (kept a b e h y z p q n);
      left_out = one_left;
      half_rate = half_rate;
      proviso = worse;
      smallest = smallest;
    }
