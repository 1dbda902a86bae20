-- What is promised of the three calls, in the words of the laws: docs/RULES.md, section 10.
use Rattle.std.specs.Prelude.{ℕ, ◌+◌, ◌*◌, ◌≤◌, ◌<◌, ◌≡◌, true, ◌⊎◌, length}
use Rattle.theory.specs.Counts.{Smallest}
use Rattle.theory.specs.Shows.{load_of, Lightened}
use Rattle.verdict.specs.Answers.{set_of}
use Rattle.run.specs.declared.Run.{Run}
use Rattle.run.specs.Run.{playing, clip_at, state_at, seat_at}
use Rattle.run.specs.Sound.{SoundRun}

-- q is r started: the show, the counts, every state, and the order's unused places are as they were.
pub record Started (r q : Run) : Type 0 where
  pub show : q.show ≡ r.show
  pub counts : q.counts ≡ r.counts
  pub states : q.states ≡ r.states
  pub order : (k : ℕ) → playing r ≤ k → seat_at q k ≡ seat_at r k
  pub sized : length q.order ≡ length r.order
  pub started : q.started ≡ true

-- A session is not behind its cushion: P is no less than Y and C come to, all in microbytes.
abbrev pub Cushioned : Run → ℕ → Type 0
Cushioned r i = (clip_at r i).cushion * 1000000 + (state_at r i).clock ≤ (state_at r i).put * 1000000

-- Session i of a plays at the rate of session j of b, or it is not behind its cushion.
abbrev pub Steady : Run → Run → ℕ → ℕ → Type 0
Steady a b i j = ((clip_at a i).rate ≡ (clip_at b j).rate) ⊎ Cushioned a i

-- Two runs of demand 3: a's show is b's made lighter, and session i of a was session e i. Both are sound and hold the smallest
-- counts of their shows, and P, G and C of the sessions that are left are equal.
pub record Lightly (a b : Run) (e : ℕ → ℕ) : Type 0 where
  pub lighter : Lightened a.show b.show e
  pub light : SoundRun a
  pub heavy : SoundRun b
  pub after : Smallest (load_of a.show) (set_of a.counts)
  pub before : Smallest (load_of b.show) (set_of b.counts)
  pub states : (i : ℕ) → i < playing a → state_at a i ≡ state_at b (e i)
