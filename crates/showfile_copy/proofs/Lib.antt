pub mod Trip
pub mod UnusedAgain
