pub mod Turns
pub mod Determined
