pub mod Faults
pub mod Format
pub mod Laying
pub mod Loading
pub mod Reading
