pub mod Expect
pub mod Claims
