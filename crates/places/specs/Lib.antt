pub mod Laps
pub mod Loops
pub mod Owing
pub mod Theorems
pub mod Walks
