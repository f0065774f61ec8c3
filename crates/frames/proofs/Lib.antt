pub mod Bits
pub mod Sizes
pub mod Heads
pub mod Zeros
pub mod Accepted
pub mod Order
pub mod Claims
pub mod Worked
