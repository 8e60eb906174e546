pub mod Number
pub mod Summary
pub mod Inner
