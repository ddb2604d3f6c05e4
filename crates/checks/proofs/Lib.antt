pub mod Stages
pub mod Spans
