-- A line a turn: what was put so far are the lines of the sessions before. Assumes nothing.
use mathlib.Core.Path.{sym}
use Rattle.theory.specs.Shows.{load_of}
use Rattle.verdict.specs.Answers.{set_of}
use Rattle.report.specs.Text.{session_line, session_lines}
use Rattle.text.proofs.Puts.{pieces_begun, piece_room, piece_put, put_as, room_as}
use Rattle.report.proofs.Texts.{lines_none, lines_more, line_made}
use Rattle.report.proofs.put_sessions.Goals as goal

pub loop-i-init : goal.loop-i-init
loop-i-init c = pieces_begun _ _ _ _ (lines_none _ _)

pub put_session-next-requires : goal.put_session-next-requires
put_session-next-requires c =
    let m = set_of c.args.counts in
    room_as (sym (line_made c.args.show c.args.counts c.args.times c.requires.timed c.loop-i.i c.loop-i-test.true))
    (piece_room c.args.out.now c.args.at (session_lines (load_of c.args.show) m) c.args.show.playing (session_line (load_of c.args.show) m)
    (λ i h. lines_more (load_of c.args.show) m i) c.requires.fits_at c.loop-i.out c.loop-i.i c.loop-i.next c.loop-i.invariant c.loop-i-test.true)

pub loop-i-preserved : goal.loop-i-preserved
loop-i-preserved c =
    let m = set_of c.args.counts in
    piece_put c.args.out.now c.args.at (session_lines (load_of c.args.show) m) c.args.show.playing (session_line (load_of c.args.show) m)
    (λ i h. lines_more (load_of c.args.show) m i) c.requires.fits_at c.loop-i.out c.loop-i.i c.loop-i.next c.loop-i.invariant c.loop-i-test.true
    c.put_session-next.new.out c.put_session-next.result c.put_session-next.auto.out
    (put_as (line_made c.args.show c.args.counts c.args.times c.requires.timed c.loop-i.i c.loop-i-test.true) c.put_session-next.ensures)
