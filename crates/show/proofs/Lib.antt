pub mod Checks
pub mod Rows
pub mod Lists
pub mod Shows
pub mod Faults
pub mod Refusals
