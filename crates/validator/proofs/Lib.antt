pub mod Places
pub mod Widening
pub mod Refusing
pub mod Editing
pub mod Looking
pub mod Sweeping
pub mod Writing
