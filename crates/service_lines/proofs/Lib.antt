pub mod Fronts
pub mod Gives
pub mod Turns
pub mod Lines
