pub mod Lengths
pub mod Worked
