pub mod TokenPlaces
pub mod Precedences
pub mod Parts
pub mod DeclarationParts
pub mod DeclarationRow
