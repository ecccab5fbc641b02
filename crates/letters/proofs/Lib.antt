pub mod Declaring
pub mod Positions
