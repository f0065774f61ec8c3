pub mod Fits
pub mod Claims
pub mod Worked
