pub mod Bits
pub mod Walk
pub mod Claims
