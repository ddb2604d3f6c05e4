pub mod Classes
pub mod Scanning
pub mod Places
