pub mod Found
pub mod Stepwise
