pub mod Accepted
pub mod Order
pub mod Unchanged
pub mod Claims
