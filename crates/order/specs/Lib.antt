pub mod First
pub mod Scanning
pub mod Blocks
pub mod Turns
