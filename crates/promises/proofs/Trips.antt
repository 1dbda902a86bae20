-- The two round trips, by citation. Assumes nothing.
use Prim.Native.Nat.{◌≤◌}
use mathlib.Core.Path.{ap}
use native.Mathlib.Omega.{arith}
use lib.ListN.{length}
use Rattle.showfile.specs.declared.Reading.{Reading}
use Rattle.showfile_write.proofs.Parts.{zeroed_alike}
use Rattle.showfile_copy.proofs.Trip.{file_read, note_read, file_written}
use Rattle.promises.specs.Files.{Trips}

pub trips : Trips
trips =
    record {
      read_again = λ x note shaped w h.
          let e = file_read x note shaped.layouts shaped.sessions w h in
          let counts = w.counts in
          let laid : x.laid ≤ length x.layouts = omega (arith, shaped.layouts) in
          let playing : x.playing ≤ length x.sessions = omega (arith, shaped.sessions) in
          record {
            granted = ap (λ (r : Reading). r.check) e;
            same_note = note_read x note shaped.layouts shaped.sessions w h;
            same_show = ap (λ (r : Reading). r.show) e;
            alike = zeroed_alike x laid playing;
          };
      written_again = file_written;
    }
