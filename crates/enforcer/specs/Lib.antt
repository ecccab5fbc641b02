pub mod Enforcement
pub mod Faults
pub mod Limited
pub mod Offers
