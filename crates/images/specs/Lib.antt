pub mod Tuples
pub mod Page
