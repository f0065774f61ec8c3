pub mod OwnWrite
