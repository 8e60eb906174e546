pub mod Entry
pub mod Kind
pub mod Read
pub mod Walk
pub mod Prefix
pub mod Reader
