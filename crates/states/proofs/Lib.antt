pub mod States
pub mod Clashes
pub mod Back
