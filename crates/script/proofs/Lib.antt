pub mod Counted
pub mod Saying
pub mod Worked
