pub mod Begins
pub mod Outcomes
pub mod Sorting
pub mod Walking
pub mod ByKind
