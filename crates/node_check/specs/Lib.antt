pub mod Answers
pub mod Named
pub mod Shapes
