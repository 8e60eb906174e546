pub mod Then
pub mod Told
