pub mod Bounds
pub mod Search
pub mod Splice
