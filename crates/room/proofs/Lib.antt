pub mod Summing
pub mod Tightness
