-- Why a load has no set: docs/RULES.md, section 11. b stands for the largest buffer that there is.
use Rattle.std.specs.Prelude.{ℕ, ◌*◌, ◌/◌, ◌≤◌, ◌<◌, ◌≡◌}
use Rattle.std.proofs.Math.Logic.{ite}
use Rattle.std.proofs.Math.Decide.{ℕ_discrete}
use Rattle.theory.specs.Counts.{Load, unit, needed, Counted, Augmenting, Accepted, Smallest, whole_load}

-- The same load with other buffers ..
abbrev pub with_buffers : (ℕ → ℕ) → Load → Load
with_buffers b l =
    record {
      block = l.block;
      cylinder = l.cylinder;
      playing = l.playing;
      stream = λ i.
          record {
            rate = (l.stream i).rate;
            cushion = (l.stream i).cushion;
            buffer = b i;
            time = (l.stream i).time;
            weight = (l.stream i).weight;
            surplus = (l.stream i).surplus;
          };
    }

-- .. with every buffer at b ..
abbrev pub widened : ℕ → Load → Load
widened b l = with_buffers (λ i. b) l

-- .. and with one buffer changed.
abbrev pub with_buffer : ℕ → ℕ → Load → Load
with_buffer i size l = with_buffers (λ j. ite (ℕ_discrete j i) size (l.stream j).buffer) l

-- OVERLOAD: no set of counts is workahead-augmenting, however large the counts and whatever the buffers.
abbrev pub NeverKeepsUp : Load → Type 0
NeverKeepsUp l = (m : ℕ → ℕ) → Counted l m → Augmenting l m → ⊥

-- BEYOND: not that; but refused with every buffer at b.
pub record Beyond (l : Load) (b : ℕ) : Type 0 where
  pub keeps : NeverKeepsUp l → ⊥
  pub refused : Accepted (widened b l) → ⊥

-- BUFFER: session i is the lowest whose smallest count, taken with every buffer at b, does not fit its own, and `size` is the buffer
-- that it needs.
pub record TooSmall (l : Load) (b i size : ℕ) : Type 0 where
  pub counts : ℕ → ℕ
  pub smallest : Smallest (widened b l) counts
  pub session : i < l.playing
  pub exact : size ≡ needed l i (counts i)
  pub short : (l.stream i).buffer < size
  pub lowest : (j : ℕ) → j < i → needed l j (counts j) ≤ (l.stream j).buffer

-- How much of its time the drive would have to work, in tenths of a per cent, rounded down.
unfoldable pub tenths : Load → ℕ
tenths l = whole_load l * 1000 / (l.cylinder * unit l)
