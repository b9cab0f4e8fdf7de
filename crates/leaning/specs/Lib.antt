pub mod Labels
pub mod Marking
pub mod Pairs
pub mod Search
