-- Text put into a lent buffer at a place.
use Rattle.std.specs.Prelude.{ℕ, ◌+◌, ◌≤◌, ◌≡◌, List, length}
use Rattle.std.proofs.Math.Logic.{ite}
use Rattle.std.proofs.Math.Decide.{dec_le}
use Rattle.showfile.specs.Bytes.{over}

-- where the text fits from `at` on it is put there; where it does not, no byte changes ..
unfoldable pub put_over : List ℕ → ℕ → List ℕ → List ℕ
put_over b at t = ite (dec_le (at + length t) (length b)) (over b at t) b

-- .. and the place is answered that was given, else the place after the text
unfoldable pub put_to : List ℕ → ℕ → List ℕ → ℕ
put_to b at t = ite (dec_le (at + length t) (length b)) (at + length t) at

-- a text fits from `at` on
pub record FitsAt (b : List ℕ) (at : ℕ) (text : List ℕ) : Type 0 where
  pub fits : at + length text ≤ length b

-- text was put from `at` on; it ends before `next`, and all else is as it was
pub record Put (was : List ℕ) (at : ℕ) (text after : List ℕ) (next : ℕ) : Type 0 where
  pub bytes : after ≡ over was at text
  pub upto : next ≡ at + length text
