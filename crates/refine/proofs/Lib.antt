pub mod Writing
pub mod Rows
pub mod Thinned
pub mod Places
pub mod Steps
pub mod Decisions
