pub mod Arcs
pub mod Nodes
pub mod Marking
