pub mod Books
pub mod Marks
