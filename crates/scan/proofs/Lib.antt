pub mod Scanning
pub mod Fronts
pub mod Numbers
pub mod Bytes
