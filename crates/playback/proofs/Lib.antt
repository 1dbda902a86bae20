pub mod Cycles
pub mod Clocks
pub mod Calls
pub mod Laws
