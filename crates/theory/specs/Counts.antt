-- The set of counts: docs/RULES.md, section 7. Of a session's worst time nothing is said but that it has the laws.
use Rattle.std.specs.Prelude.{ℕ, ◌+◌, ◌*◌, ◌≤◌, ◌<◌}
use Rattle.cost.specs.Bound.{BoundLaws}
use Rattle.theory.specs.Sum.{sum_to}

-- A session as the verdict sees it: R, Y, B and its worst time U, with its weight and its surplus.
pub record Stream : Type 0 where
  pub rate : ℕ
  pub cushion : ℕ
  pub buffer : ℕ
  pub time : ℕ → ℕ
  pub weight : ℕ
  pub surplus : ℕ

-- A show as the verdict sees it: A, N, how many sessions play, and each.
pub record Load : Type 0 where
  pub block : ℕ
  pub cylinder : ℕ
  pub playing : ℕ
  pub stream : ℕ → Stream

-- What is known of a load: A and N are not 0, and each session's worst time has the laws.
pub record Sound (l : Load) : Type 0 where
  pub block : 1 ≤ l.block
  pub cylinder : 1 ≤ l.cylinder
  pub laws : (i : ℕ) → i < l.playing → BoundLaws l.cylinder (l.stream i).weight (l.stream i).surplus (l.stream i).time

-- A x 1,000,000: the microbytes of a block
abbrev pub unit : Load → ℕ
unit l = l.block * 1000000

-- L: the sum of all U(M)
abbrev pub round_time : Load → (ℕ → ℕ) → ℕ
round_time l m = sum_to (λ i. (l.stream i).time (m i)) l.playing

-- (M + 1) x A + Y: the smallest buffer that takes the count
abbrev pub needed : Load → ℕ → ℕ → ℕ
needed l i m = (m + 1) * l.block + (l.stream i).cushion

-- every count is at least 1
abbrev pub Counted : Load → (ℕ → ℕ) → Type 0
Counted l m = (i : ℕ) → i < l.playing → 1 ≤ m i

-- workahead-augmenting: M x A x 1,000,000 > R x L for every session, strictly
abbrev pub Augmenting : Load → (ℕ → ℕ) → Type 0
Augmenting l m = (i : ℕ) → i < l.playing → (l.stream i).rate * round_time l m < m i * unit l

-- feasible: (M + 1) x A + Y is at most B for every session
abbrev pub Feasible : Load → (ℕ → ℕ) → Type 0
Feasible l m = (i : ℕ) → i < l.playing → needed l i (m i) ≤ (l.stream i).buffer

-- A feasible workahead-augmenting set.
pub record Good (l : Load) (m : ℕ → ℕ) : Type 0 where
  pub counted : Counted l m
  pub augmenting : Augmenting l m
  pub feasible : Feasible l m

-- Accepted: a feasible workahead-augmenting set exists.
abbrev pub Accepted : Load → Type 0
Accepted l = (m : ℕ → ℕ) × Good l m

-- The answer: the set that is smallest for every session at once.
pub record Smallest (l : Load) (m : ℕ → ℕ) : Type 0 where
  pub good : Good l m
  pub least : (o : ℕ → ℕ) → Good l o → (i : ℕ) → i < l.playing → m i ≤ o i

-- The whole load: the sum over sessions of R x the weight of U
abbrev pub whole_load : Load → ℕ
whole_load l = sum_to (λ i. (l.stream i).rate * (l.stream i).weight) l.playing

-- An even hundred per cent or more: the whole load is at least N x A x 1,000,000.
abbrev pub Overloaded : Load → Type 0
Overloaded l = l.cylinder * unit l ≤ whole_load l
