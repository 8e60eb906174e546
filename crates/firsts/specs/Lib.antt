pub mod First
pub mod Judge
pub mod Tests
pub mod Clash
