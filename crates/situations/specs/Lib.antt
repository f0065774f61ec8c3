pub mod Steps
pub mod Situations
