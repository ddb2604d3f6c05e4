pub mod Moves
pub mod OpenPairs
pub mod Walks
pub mod TokenKinds
pub mod Atoms
pub mod Blocks
