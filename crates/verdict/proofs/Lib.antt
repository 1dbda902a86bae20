pub mod Sets
pub mod Ends
pub mod Works
pub mod Turns
pub mod Once
pub mod Decisions
pub mod Unused
