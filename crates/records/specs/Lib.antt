pub mod Bodies
pub mod Faults
pub mod Readers
pub mod Readings
pub mod Records
