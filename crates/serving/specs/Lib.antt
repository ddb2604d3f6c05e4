pub mod Serving
pub mod Found
