pub mod Countings
pub mod Named
pub mod Standings
pub mod Seats
pub mod Fits
pub mod Calls
pub mod Laws
