pub mod Places
pub mod Told
pub mod Claims
