pub mod Claims
pub mod Deciding
pub mod PlateCases
pub mod ReadingLoop
pub mod Rounds
pub mod Trying
