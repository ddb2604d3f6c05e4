pub mod Intervals
pub mod Codes
