pub mod Claims
pub mod PlateCases
pub mod Reading
