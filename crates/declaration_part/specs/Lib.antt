pub mod Walking
pub mod Named
pub mod Parsing
pub mod Parts
