pub mod Claims
pub mod Spans
pub mod Repeated
