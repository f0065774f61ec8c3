pub mod Zero
pub mod Chain
