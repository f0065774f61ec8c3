pub mod Counted
pub mod Printed
