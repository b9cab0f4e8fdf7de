pub mod Admitting
pub mod Arcs
pub mod Marking
pub mod Showing
