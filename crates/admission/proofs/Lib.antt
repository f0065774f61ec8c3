pub mod Plans
pub mod Admitted
pub mod Nothing
