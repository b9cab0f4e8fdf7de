pub mod Bit
pub mod ByRows
