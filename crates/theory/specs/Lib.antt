pub mod Sum
pub mod Counts
pub mod Rounds
pub mod Lighter
pub mod Shows
pub mod Reasons
pub mod Floor
pub mod Slack
