pub mod Turns
pub mod Endings
pub mod Answers
pub mod ByKind
