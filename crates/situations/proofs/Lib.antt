pub mod Computed
pub mod Full
pub mod Proved
