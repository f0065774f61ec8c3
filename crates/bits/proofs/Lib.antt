pub mod Joined
pub mod Word
pub mod Operations
pub mod Counts
pub mod Words
pub mod Starts
pub mod Added
pub mod Spans
