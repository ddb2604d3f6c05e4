pub mod Pieces
pub mod Brackets
pub mod Trimming
