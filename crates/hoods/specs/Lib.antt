pub mod Arcs
pub mod Named
pub mod Parts
pub mod Typings
pub mod Words
