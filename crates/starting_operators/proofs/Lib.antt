pub mod Numbers
pub mod NameSearch
pub mod NameSizes
pub mod ReservedNumbers
pub mod Roles
pub mod NotedTokens
