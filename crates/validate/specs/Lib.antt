pub mod Faults
pub mod Promise
