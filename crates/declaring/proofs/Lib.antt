pub mod DeclarationAt
pub mod DeclarationLoop
pub mod PartAnswers
