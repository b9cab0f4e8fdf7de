pub mod Ledger
pub mod Steps
pub mod Sound
pub mod Alike
