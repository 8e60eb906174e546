pub mod Newest
pub mod First
pub mod Group
pub mod Open
