pub mod Words
pub mod Spans
pub mod Answers
