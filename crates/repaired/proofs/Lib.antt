pub mod After
pub mod Demand3Repaired
pub mod Example
