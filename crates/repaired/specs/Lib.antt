pub mod Demand3Repaired
pub mod Example
