-- `arrive` begins the read of the session at the place. Assumes nothing.
use native.Mathlib.Omega.{arith}
use Rattle.run.proofs.Seats.{sound_seated, seat_few, seat_put}
use Rattle.scheduler.proofs.cycle.arrive.Goals as goal

pub bounds-run-seat : goal.bounds-run-seat
bounds-run-seat c = seat_few _ (sound_seated _ c.requires.sound_run (omega arith)) _ c.requires.place_lt_playing

pub overflow_add-run : goal.overflow_add-run
overflow_add-run c = let p = seat_put _ c.requires.sound_run _ c.requires.place_lt_playing in omega arith
