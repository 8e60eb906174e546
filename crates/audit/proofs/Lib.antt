pub mod Sameness
pub mod Cutting
pub mod Slotwise
pub mod Telling
pub mod Pagewise
pub mod RightPages
pub mod Sentence
pub mod Own
