pub mod Members
pub mod Keeping
pub mod Alike
pub mod Determined
