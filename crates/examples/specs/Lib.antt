pub mod Table
pub mod Limits
pub mod Cases
