pub mod Lines
pub mod Outcome
pub mod Node
