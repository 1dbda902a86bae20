pub mod Ceil
pub mod EdgeLaws
pub mod Bound
pub mod Costs
pub mod WorstTimes
