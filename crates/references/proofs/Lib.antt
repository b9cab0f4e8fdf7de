pub mod Chains
pub mod Decided
pub mod Drawing
pub mod Paths
pub mod Found
pub mod Ranked
pub mod Placing
