pub mod Calls
pub mod Rules
pub mod Log
pub mod Writes
pub mod OwnWrites
pub mod Walks
