pub mod Journal
pub mod Firsts
pub mod Stores
pub mod Counts
pub mod Answers
pub mod Claims
