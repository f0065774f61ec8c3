pub mod Running
pub mod Claims
pub mod Writes
pub mod Readings
pub mod EqualLogs
pub mod Fits
