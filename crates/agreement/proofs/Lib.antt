pub mod Spans
pub mod Follows
pub mod Beside
pub mod After
pub mod Agreement
pub mod Uses
