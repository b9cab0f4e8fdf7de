pub mod Sheet
pub mod Table
pub mod Terms
