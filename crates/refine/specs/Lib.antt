pub mod Tables
pub mod Deciding
pub mod Due
pub mod Narrowing
pub mod Writing
