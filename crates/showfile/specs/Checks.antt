-- The tests of a file, 1 to 4: docs/RULES.md, sections 4 and 6.
use Rattle.std.specs.Prelude.{ℕ, ◌+◌, ◌*◌, ◌-◌, ◌≤◌, ◌≡◌}
use Rattle.std.proofs.Math.Logic.Dec
use Rattle.std.proofs.Math.Decide.{dec_le, ℕ_discrete}
use Rattle.show.specs.Outcomes.{Check}
use Rattle.show.specs.declared.refusal.Refusal.TheVariants.{FileLength, Distances, NoteLength}
use Rattle.show.specs.Decisions.{decided, between?}
use Rattle.show.specs.Checks.{unless, first, counts_check}
use Rattle.showfile.specs.declared.trailer.Trailer.{Trailer}

-- the length of the note, which is what precedes the layouts, where the trailer t stands at `at`
abbrev pub note_length : ℕ → Trailer → ℕ
note_length at t = at - 16 * (t.laid + t.playing)

-- With l layouts and s sessions the distances are 16(l+s) and 16s, and they do not reach before the file.
pub record Distanced (at : ℕ) (t : Trailer) : Type 0 where
  pub far : t.far ≡ 16 * (t.laid + t.playing)
  pub near : t.near ≡ 16 * t.playing
  pub inside : t.far ≤ at

unfoldable pub distanced? : (at : ℕ) (t : Trailer) → Dec (Distanced at t)
unfolding Dec.and ℕ_discrete dec_le
distanced? at t =
    decided (λ h. record { far = h.0; near = h.1.0; inside = h.1.1 }) (λ b. (b.far, (b.near, b.inside)))
    (Dec.and (ℕ_discrete _ _) (Dec.and (ℕ_discrete _ _) (dec_le _ _)))

-- the shortest file and the longest, the longest note
abbrev pub file_least : ℕ
file_least = 20

abbrev pub file_most : ℕ
file_most = 1428

abbrev pub note_most : ℕ
note_most = 1024

-- 1: file under 20 or over 1,428 bytes
abbrev pub length_check : ℕ → Check
length_check n = unless (between? file_least n file_most) FileLength

-- 3: a distance differs from its formula, or reaches before the file
abbrev pub distances_check : ℕ → Trailer → Check
distances_check at t = unless (distanced? at t) Distances

-- 4: note over 1,024 bytes
abbrev pub note_check : ℕ → Check
note_check n = unless (dec_le n note_most) NoteLength

-- 2, 3, 4, of the trailer t that stands at `at`
unfoldable pub trailer_check : ℕ → Trailer → Check
trailer_check at t = first (counts_check t.laid t.playing) (first (distances_check at t) (note_check (note_length at t)))
