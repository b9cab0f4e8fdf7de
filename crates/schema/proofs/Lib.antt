pub mod Stratified
pub mod Written
