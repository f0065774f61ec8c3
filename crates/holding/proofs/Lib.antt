pub mod Lending
pub mod Held
