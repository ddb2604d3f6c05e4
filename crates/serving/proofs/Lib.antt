pub mod Reading
pub mod Writing
pub mod Locating
pub mod Serving
