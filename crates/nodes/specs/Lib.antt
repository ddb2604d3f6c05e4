pub mod Kind
pub mod Node
pub mod First
pub mod Building
