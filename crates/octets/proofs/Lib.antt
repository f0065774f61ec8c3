pub mod Lists
pub mod Overwrite
pub mod Zero
