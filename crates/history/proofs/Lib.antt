pub mod OneSlot
pub mod Exact
pub mod Demand3
pub mod Areas
pub mod Left
pub mod Stores
pub mod Records
pub mod Night
