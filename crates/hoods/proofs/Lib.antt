pub mod Kept
pub mod Heads
pub mod Tables
pub mod Packing
pub mod Copies
pub mod Filling
pub mod Flagged
