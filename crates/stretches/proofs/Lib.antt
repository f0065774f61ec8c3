pub mod Stretches
pub mod Taking
pub mod Cleaning
