pub mod Forms
pub mod Writing
pub mod ReadBack
pub mod Searching
pub mod Examples
