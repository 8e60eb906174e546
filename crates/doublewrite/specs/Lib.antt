pub mod File
pub mod Repair
pub mod Write
pub mod Marks
