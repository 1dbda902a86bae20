pub mod Values
pub mod Pairs
pub mod Puts
pub mod NumberLaws
pub mod Worked
