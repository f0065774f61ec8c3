pub mod Scan
pub mod Values
