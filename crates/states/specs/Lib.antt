pub mod State
pub mod Clash
