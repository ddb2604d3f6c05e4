pub mod Over
pub mod Parts
pub mod Shapes
pub mod Steps
