-- What is so of a file that reading lets pass. Assumes nothing.
use Rattle.std.specs.Prelude.{Ok, Err}
use Prim.Native.Nat.{ℕ, ◌-◌}
use mathlib.Core.Path.{◌≡◌, refl, ap}
use mathlib.Core.List.{List}
use lib.ListN.{length, drop}
use Rattle.show.specs.Outcomes.{Check}
use Rattle.show.specs.declared.Show.{Show}
use Rattle.show.specs.declared.refusal.Refusal.TheVariants.{FileLength}
use Rattle.show.specs.Limits.{Between, ShowWithin}
use Rattle.show.specs.Decisions.{between?}
use Rattle.show.specs.Checks.{first, limits_check}
use Rattle.show.proofs.Checks.{unless_within, first_left, first_right}
use Rattle.showfile.specs.declared.trailer.Trailer.{Trailer}
use Rattle.showfile.specs.File.{trailer_of, show_from}
use Rattle.showfile.specs.Checks.{file_least, file_most, note_length, length_check, trailer_check}
use Rattle.showfile.specs.Answers.{reading, shown_at, read_check, read_at, read_of}
use Rattle.showfile.proofs.Passed.{Framed, check_framed, limits_within}

-- where a file's trailer stands, and the trailer
abbrev pub end : List ℕ → ℕ
end f = length f - 20

abbrev pub last : List ℕ → Trailer
last f = trailer_of (drop (end f) f)

-- a file past 1 to 7, and what is read from it
pub record Readable (f : List ℕ) : Type 0 where
  pub size : Between file_least (length f) file_most
  pub framed : Framed (end f) (last f)
  pub within : ShowWithin (shown_at f (end f) (last f))
  pub is : read_of f ≡ reading (Ok tt) (shown_at f (end f) (last f)) (note_length (end f) (last f))

reading_within : (c : Check) (x : Show) (n : ℕ) → (reading c x n).check ≡ Ok tt → c ≡ Ok tt
reading_within (Ok tt) x n e = refl
reading_within (Err w) x n e = e

pub check_readable : (f : List ℕ) → (read_of f).check ≡ Ok tt → Readable f
unfolding read_of read_at read_check show_from
check_readable f e =
    let a = length_check (length f) in
    let b = trailer_check (end f) (last f) in
    let x = shown_at f (end f) (last f) in
    let n = note_length (end f) (last f) in
    let all : first a (first b (limits_check x)) ≡ Ok tt = reading_within (first a (first b (limits_check x))) x n e in
    let rest = first_right a (first b (limits_check x)) all in
    let framed = check_framed (end f) (last f) (first_left b (limits_check x) rest) in
    record {
      size = unless_within (between? file_least (length f) file_most) FileLength (first_left a (first b (limits_check x)) all);
      framed = framed;
      within = limits_within x framed.counts (first_right b (limits_check x) rest);
      is = ap (λ (c : Check). reading c x n) all;
    }

-- What is read is within every limit.
pub read_within : (f : List ℕ) → (read_of f).check ≡ Ok tt → ShowWithin (read_of f).show
read_within f e = let g = check_readable f e in rw g.is g.within
