pub mod Trials
pub mod Once
pub mod Unused
