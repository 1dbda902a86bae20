-- What a call answers that puts a whole text into a lent buffer, and what the buffer then holds.
use Rattle.std.specs.Prelude.{ℕ, ◌≤◌, ◌<◌, List, length, Ok, Err}
use Rattle.show.specs.declared.refusal.Refusal.TheVariants.{BufferShort}
use Rattle.showfile.specs.declared.Written.{Written}
use Rattle.showfile.specs.Answers.{written, written_over}
use Rattle.text.specs.Puts.{Put}

-- A text of which `is` holds, put into the buffer b from its first byte on, every later byte as it was. A buffer under `most` bytes is 16:
-- nothing is put, and every byte is as it was.
pub data ToldIs (is : List ℕ → Type 0) (most : ℕ) (b : List ℕ) : Written → List ℕ → Type 0 where
  told : (t : List ℕ) → is t → most ≤ length b → ToldIs is most b (written (Ok tt) (length t)) (written_over (Ok tt) t b)
  short : length b < most → ToldIs is most b (written (Err BufferShort) 0) b

-- a text of which `is` holds was put from the buffer's first byte on, and has n bytes
pub record Texted (is : List ℕ → Type 0) (was after : List ℕ) (n : ℕ) : Type 0 where
  pub text : List ℕ
  pub holds : is text
  pub put : Put was 0 text after n
