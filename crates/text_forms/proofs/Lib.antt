pub mod Forms
pub mod Pairs
pub mod Worked
