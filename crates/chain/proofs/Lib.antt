pub mod Chains
pub mod Edits
pub mod Placed
pub mod Upkeep
