pub mod Bits
pub mod Layout
pub mod Kinds
pub mod Checks
pub mod Read
pub mod Write
pub mod Order
pub mod Claims
