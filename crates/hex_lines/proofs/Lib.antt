pub mod Characters
pub mod Whole
