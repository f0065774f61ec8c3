pub mod Gathering
pub mod Concluding
pub mod Walking
