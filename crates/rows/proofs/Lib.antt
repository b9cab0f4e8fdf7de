pub mod Gains
pub mod Tables
