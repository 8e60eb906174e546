pub mod TableRows
pub mod Search
