pub mod Arcs
pub mod Faults
pub mod Stores
pub mod Walks
