pub mod Table
pub mod TestedClasses
pub mod QuotedCharacters
pub mod TokenAtFront
pub mod ScanSteps
pub mod StoredToken
pub mod ScannedTo
pub mod TokenSizes
