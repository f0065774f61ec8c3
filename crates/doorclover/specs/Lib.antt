pub mod Calls
pub mod Map
pub mod Journal
pub mod Walk
