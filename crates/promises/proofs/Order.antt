-- Of the faults that are present the first in a call's order is told. Assumes nothing.
use Rattle.promises.specs.Order.{Order}
use Rattle.promises.proofs.OrderOfShows.{order_of_shows}
use Rattle.promises.proofs.OrderOfFiles.{order_of_files}
use Rattle.promises.proofs.OrderOfRuns.{order_of_runs}

pub order : Order
order = record { shows = order_of_shows; files = order_of_files; runs = order_of_runs }
