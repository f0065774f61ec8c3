pub mod Pages
pub mod Entries
pub mod Walk
pub mod Claims
