pub mod Caps
pub mod Edits
pub mod Files
pub mod OfferLoop
pub mod Offering
