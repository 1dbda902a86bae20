pub mod Bound
pub mod Costs
pub mod WorstTimes
