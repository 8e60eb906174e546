pub mod Build
pub mod Starred
pub mod Example
pub mod ExactEnd
pub mod TwoRuns
pub mod ThreeRuns
pub mod Lengths
