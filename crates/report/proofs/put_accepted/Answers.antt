-- The first line, then the sessions. Assumes nothing.
use mathlib.Core.Path.{◌≡◌, sym, ap}
use mathlib.Core.List.{List, ◌++◌}
use Prim.Native.Nat.{ℕ}
use Rattle.show.specs.declared.Show.{Show}
use Rattle.theory.specs.Counts.{round_time}
use Rattle.theory.specs.Shows.{load_of}
use Rattle.verdict.specs.declared.Decision.{Decision}
use Rattle.verdict.specs.Answers.{set_of}
use Rattle.text.specs.Ascii.{ascii}
use Rattle.text.specs.Lines.{two_line}
use Rattle.report.specs.Text.{session_lines}
use Rattle.text.specs.Puts.{FitsAt, Put}
use Rattle.text.proofs.Puts.{answer_as, room_first, room_then, put_then}
use Rattle.report.proofs.put_accepted.Goals as goal

abbrev first : Show → Decision → List ℕ
first s d = two_line (ascii "accepted ") s.playing (round_time (load_of s) (set_of d.counts))

abbrev rest : Show → Decision → List ℕ
rest s d = session_lines (load_of s) (set_of d.counts) s.playing

first_same :
    (s : Show) (d : Decision) → d.round ≡ round_time (load_of s) (set_of d.counts) →
    two_line (ascii "accepted ") s.playing d.round ≡ first s d
first_same s d e = ap (λ (t : ℕ). two_line (ascii "accepted ") s.playing t) e

pub put_sessions-requires : goal.put_sessions-requires
put_sessions-requires c =
    let room : FitsAt c.args.out.now 0 (first c.args.show c.args.decision ++ rest c.args.show c.args.decision) = c.requires.fits_at in
    let line : Put c.args.out.now 0 (first c.args.show c.args.decision) c.put_paired-next.new.out c.put_paired-next.result =
    answer_as (sym (first_same c.args.show c.args.decision c.requires.round_value)) (room_first _ _ room)
    (c.put_paired-next.ensures.out_after, c.put_paired-next.ensures.value) in
    record {
      timed = c.requires.timed;
      fits_at = room_then _ _ room line c.put_paired-next.auto.out;
    }

pub returns : goal.returns
returns c =
    let room : FitsAt c.args.out.now 0 (first c.args.show c.args.decision ++ rest c.args.show c.args.decision) = c.requires.fits_at in
    let line : Put c.args.out.now 0 (first c.args.show c.args.decision) c.put_paired-next.new.out c.put_paired-next.result =
    answer_as (sym (first_same c.args.show c.args.decision c.requires.round_value)) (room_first _ _ room)
    (c.put_paired-next.ensures.out_after, c.put_paired-next.ensures.value) in
    put_then _ _ room line c.put_sessions.ensures
