pub mod Judge
pub mod Right
pub mod Known
