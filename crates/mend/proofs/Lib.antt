pub mod Stamping
pub mod Tuples
pub mod Filling
pub mod Heads
pub mod Pages
pub mod Areas
