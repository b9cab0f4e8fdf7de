pub mod Members
pub mod Mentions
pub mod Rows
