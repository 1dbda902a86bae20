-- Why it was a no: docs/RULES.md, section 11. proofs/Reasons.antt proves it.
use Rattle.std.specs.Prelude.{ℕ, ◌+◌, ◌*◌, ◌/◌, ◌≤◌, ◌<◌, ◌≡◌, ◌⊎◌, ◌↔◌, Ok, Err, Some, None, true}
use Rattle.show.specs.declared.Show.{Show}
use Rattle.show.specs.declared.refusal.Refusal.{Refusal}
use Rattle.show.specs.declared.refusal.Refusal.TheVariants.{NoSet}
use Rattle.show.specs.Limits.{ShowWithin, Alike, session_at, layout_at, buffer_most}
use Rattle.show.specs.Checks.{show_check}
use Rattle.theory.specs.Sum.{sum_to}
use Rattle.theory.specs.Counts.{Accepted}
use Rattle.theory.specs.Reasons.{with_buffers, widened, with_buffer, NeverKeepsUp, Beyond, TooSmall, tenths}
use Rattle.theory.specs.Shows.{load_of}
use Rattle.verdict.specs.declared.Decision.{Decision}
use Rattle.verdict.specs.Answers.{DecisionIs}
use Rattle.reason.specs.declared.Reason.TheVariants as reason
use Rattle.reason.specs.Answers.{Reasoned, ReasonIs, loaded_of}

-- A reason for an 8.
abbrev pub ForEight : Reasoned → Type 0
ForEight r = (r ≡ Ok (Some reason.Overload)) ⊎ ((r ≡ Ok (Some reason.Beyond)) ⊎ ((i : ℕ) × ((size : ℕ) × (r ≡ Ok (Some (reason.Buffer i size))))))

-- Each answer is given when it is true, and only then.
pub record WhenTrue (s : Show) (r : Reasoned) : Type 0 where
  pub none : (r ≡ Ok None) ↔ (ShowWithin s × Accepted (load_of s))
  pub overload : (r ≡ Ok (Some reason.Overload)) ↔ (ShowWithin s × NeverKeepsUp (load_of s))
  pub beyond : (r ≡ Ok (Some reason.Beyond)) ↔ (ShowWithin s × Beyond (load_of s) buffer_most)
  pub buffer : (i size : ℕ) → (r ≡ Ok (Some (reason.Buffer i size))) ↔ (ShowWithin s × TooSmall (load_of s) buffer_most i size)
  pub refused : (w : Refusal) → (r ≡ Err w) ↔ (show_check s ≡ Err w)
  -- one of the four for every show within the limits; that it is one, `Once` says
  pub one : ShowWithin s → (r ≡ Ok None) ⊎ ForEight r

-- It goes with what deciding says: none with a yes, a reason with an 8, and 2, 5, 6 and 7 as there.
pub record AsDecided (r : Reasoned) (d : Decision) : Type 0 where
  pub yes : (r ≡ Ok None) ↔ (d.verdict ≡ Ok tt)
  pub eight : ForEight r ↔ (d.verdict ≡ Err NoSet)
  pub limits : (w : Refusal) → r ≡ Err w → d.verdict ≡ Err w

-- The size that session i needs is exact.
pub record ExactSize (s : Show) (i size : ℕ) : Type 0 where
  -- with a smaller buffer there it is a no, whatever the others have, be it more than there is
  pub needed : (b : ℕ → ℕ) → b i < size → Accepted (with_buffers b (load_of s)) → ⊥
  -- there is a buffer of that size, and with the others as large as there are it is a yes
  pub within : size ≤ buffer_most
  pub enough : Accepted (with_buffer i size (widened buffer_most (load_of s)))
  -- given that buffer, or a larger one, and asked again, it is a yes or names a higher session
  pub again :
      (own : ℕ) → size ≤ own →
      Accepted (with_buffer i own (load_of s))
      ⊎ ((j : ℕ) × ((more : ℕ) × ((i < j) × TooSmall (with_buffer i own (load_of s)) buffer_most j more)))

-- The sum over sessions of R x (block time x N + one-track seek), and N x A x 1,000,000.
unfoldable pub load_sum : Show → ℕ
load_sum s =
    sum_to
    (λ i.
    (session_at s i).rate
    * ((layout_at s (session_at s i).layout).time * s.drive.cylinder + (layout_at s (session_at s i).layout).track))
    s.playing

abbrev pub full_load : Show → ℕ
full_load s = s.drive.cylinder * s.drive.block * 1000000

pub record Reasons : Type 0 where
  pub when_true : (s : Show) (r : Reasoned) → ReasonIs s r → WhenTrue s r
  pub as_decided : (s : Show) (r : Reasoned) (d : Decision) → ReasonIs s r → DecisionIs s d → AsDecided r d
  -- OVERLOAD: no set at any buffer size is no yes with any buffers; and it is so exactly if the sum is at least N x A x 1,000,000.
  pub any_buffers : (s : Show) → NeverKeepsUp (load_of s) ↔ ((b : ℕ → ℕ) → Accepted (with_buffers b (load_of s)) → ⊥)
  pub even_hundred : (s : Show) → ShowWithin s → NeverKeepsUp (load_of s) ↔ (full_load s ≤ load_sum s)
  -- BUFFER: the size is exact.
  pub exact : (s : Show) (i size : ℕ) → ReasonIs s (Ok (Some (reason.Buffer i size))) → ExactSize s i size
  -- The load is told in tenths of a per cent, rounded down: overloaded it reads as a hundred or more, and else, accepted too, as less.
  pub load : (s : Show) → ShowWithin s → loaded_of s ≡ Ok (load_sum s * 1000 / full_load s)
  pub reads : (s : Show) → ShowWithin s → NeverKeepsUp (load_of s) ↔ (1000 ≤ tenths (load_of s))
  pub accepted_reads : (s : Show) → ShowWithin s → Accepted (load_of s) → tenths (load_of s) < 1000
  -- nothing looks at unused places
  pub unused : (s t : Show) → Alike s t → (r : Reasoned) → ReasonIs s r → ReasonIs t r
  pub unused_load : (s t : Show) → Alike s t → loaded_of s ≡ loaded_of t
