pub mod Loads
pub mod Wide
pub mod Reasons
pub mod Answers
pub mod Once
pub mod Unused
