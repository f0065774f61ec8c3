pub mod Filling
pub mod Repacking
pub mod Parts
pub mod Spans
