pub mod Adding
pub mod Checks
pub mod Laid
pub mod Outcomes
pub mod Restored
pub mod Rows
