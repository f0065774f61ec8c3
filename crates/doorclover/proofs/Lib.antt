pub mod FromFresh
pub mod Tied
