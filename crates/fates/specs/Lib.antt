pub mod Fate
