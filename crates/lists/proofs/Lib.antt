pub mod ListPages
