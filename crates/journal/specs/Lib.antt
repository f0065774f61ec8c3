pub mod Run
pub mod Writes
pub mod Readings
pub mod Claims
