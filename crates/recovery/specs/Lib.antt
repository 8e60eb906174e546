pub mod Flat
pub mod Judgement
pub mod Spot
pub mod Ready
