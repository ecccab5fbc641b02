pub mod Alphabets
pub mod Declarations
pub mod Letters
