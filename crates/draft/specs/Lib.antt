pub mod Lawful
pub mod Named
pub mod Refusals
pub mod Rows
pub mod Sets
pub mod Tables
