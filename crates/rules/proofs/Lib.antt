pub mod Below
pub mod Capping
pub mod Counting
pub mod Follows
pub mod Leads
pub mod Positions
pub mod Spans
pub mod Tabling
