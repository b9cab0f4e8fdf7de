pub mod First
pub mod Known
pub mod Lawful
pub mod Trees
pub mod Flags
