pub mod Suffixes
pub mod Puts
pub mod LeadingZeros
pub mod Equality
