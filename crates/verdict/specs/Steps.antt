-- What the private functions ask and answer.
use Rattle.std.specs.Prelude.{ℕ, ◌+◌, ◌*◌, ◌≤◌, ◌<◌, ◌↔◌, Some, None, Option}
use Rattle.show.specs.declared.Session.{Session}
use Rattle.show.specs.declared.Show.{Show}
use Rattle.show.specs.Limits.{Between, block_least, block_most, buffer_most, session_at}
use Rattle.cost.specs.Bound.{fixed_most, each_most, cross_most, worst_most}
use Rattle.theory.specs.Counts.{Accepted}
use Rattle.theory.specs.Rounds.{need, Fits, LeastTime}
use Rattle.theory.specs.Shows.{load_of}
use Rattle.count.specs.Answers.{Buffered}

-- A round of counts that fit takes less than this ..
abbrev pub round_most : ℕ
round_most = 16 * worst_most

-- .. while any count of 32 bits takes this at most, and a round of such counts fits 64 bits.
abbrev pub time_most : ℕ
time_most = fixed_most + 4294967295 * (each_most + cross_most)

-- What is known of a session, to tell how long a round its buffer takes.
pub record Lasting (A : ℕ) (x : Session) : Type 0 where
  pub block : Between block_least A block_most
  pub rate : 1 ≤ x.rate
  pub buffer : x.buffer ≤ buffer_most

-- The times below r are those below e over which the session's count has room.
abbrev pub SoonerIs : ℕ → Session → ℕ → ℕ → Type 0
SoonerIs A x e r = (t : ℕ) → (t < r) ↔ ((t < e) × Buffered A x (need x.rate (A * 1000000) t))

-- No round of counts that fit takes so long.
abbrev pub end_most : ℕ
end_most = 1000000000000000

-- The times below r are those below the most over which all counts fit.
abbrev pub EndIs : Show → ℕ → Type 0
EndIs s r = (t : ℕ) → (t < r) ↔ ((t < end_most) × Fits (load_of s) t)

-- each session's rate
abbrev pub rates_of : Show → ℕ → ℕ
rates_of s i = (session_at s i).rate

-- The least time that sustains, which fits; or that there is no set.
pub record Settled (s : Show) (t : ℕ) : Type 0 where
  pub least : LeastTime (load_of s) t
  pub fits : Fits (load_of s) t
  pub small : t < round_most

abbrev pub SettledAs : Show → Option ℕ → Type 0
SettledAs s (Some t) = Settled s t
SettledAs s None = Accepted (load_of s) → ⊥
