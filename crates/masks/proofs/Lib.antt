pub mod Apart
pub mod Descending
pub mod Flags
pub mod Bits
pub mod Scatter
pub mod Tally
