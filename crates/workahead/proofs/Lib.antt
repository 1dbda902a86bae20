pub mod Truncated
pub mod Aheads
pub mod Calls
pub mod Laws
