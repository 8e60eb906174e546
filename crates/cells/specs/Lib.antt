pub mod Cell
pub mod Listing
pub mod Measure
pub mod Sums
