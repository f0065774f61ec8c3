pub mod Step
pub mod Frame
pub mod Claims
