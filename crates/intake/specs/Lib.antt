pub mod Orders
pub mod Search
pub mod Places
pub mod Blocks
