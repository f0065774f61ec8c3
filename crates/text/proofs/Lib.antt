pub mod Putting
pub mod Digits
pub mod Pairs
pub mod Worked
