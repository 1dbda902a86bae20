-- `read` stops at the first of 1 to 7. Assumes nothing.
use Prim.Native.Nat.{◌-◌}
use mathlib.Core.Path.{◌≡◌, sym, ap, ◌∙◌}
use native.Mathlib.Omega.{arith}
use lib.ListN.{length, drop}
use Rattle.std.proofs.lemmas.List.{take_rest}
use Rattle.show.specs.Limits.{Between}
use Rattle.show.proofs.Checks.{tells_yes, tells_no}
use Rattle.showfile.specs.File.{trailer_of}
use Rattle.showfile.specs.Checks.{file_least, file_most}
use Rattle.showfile.proofs.Passed.{check_framed}
use Rattle.showfile.proofs.Stops.{read_length, read_trailer, read_rest}
use Rattle.showfile.proofs.read.Goals.{Else-not-length_within, After-get_trailer-t}
use Rattle.showfile.proofs.read.Goals as goal

size : (c : Else-not-length_within) → Between file_least (length c.args.file.now) file_most
size c = tells_yes _ c.length_within.result c.if-not-length_within.false c.length_within.ensures

last : (c : After-get_trailer-t) → c.get_trailer-t.result ≡ trailer_of (drop (length c.args.file.now - 20) c.args.file.now)
last c = let f = c.args.file.now in c.get_trailer-t.ensures ∙ ap trailer_of (take_rest f (length f - 20))

pub returns-then-not-length_within : goal.returns-then-not-length_within
returns-then-not-length_within c =
    c.refused.ensures ∙ read_length _ (tells_no _ c.length_within.result c.if-not-length_within.true c.length_within.ensures)

pub returns-in-Err : goal.returns-in-Err
returns-in-Err c =
    let at = goal.at.returns-in-Err c in
    c.refused-in-Err.ensures ∙ read_trailer _ (size at.Else-not-length_within) _ (last at.After-get_trailer-t) (sym c.check.ensures ∙ c.in-Err.is)

pub read_limits-requires : goal.read_limits-requires
read_limits-requires c =
    let framed = check_framed _ _ (sym c.check.ensures ∙ c.in_default.is) in
    record { counts = framed.counts; distances = (framed.distances, omega arith) }

pub returns : goal.returns
returns c =
    let at = goal.at.returns c in
    c.read_limits.ensures ∙ read_rest _ (size at.Else-not-length_within) _ (last at.After-get_trailer-t) (sym c.check.ensures ∙ c.in_default.is)
