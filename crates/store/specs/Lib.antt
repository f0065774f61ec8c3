pub mod Store
pub mod Hold
