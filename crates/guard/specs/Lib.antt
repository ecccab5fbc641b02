pub mod Calls
pub mod Edits
pub mod Histories
pub mod Refusals
pub mod Runs
