pub mod Map
pub mod Begin
pub mod Fetch
pub mod End
pub mod OwnWrite
pub mod Runs
pub mod Claims
