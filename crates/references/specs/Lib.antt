pub mod Cycles
pub mod Drawn
pub mod Mentions
pub mod Strata
pub mod Ways
