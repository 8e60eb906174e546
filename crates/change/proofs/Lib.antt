pub mod Shapes
pub mod Keys
pub mod ByKind
pub mod Places
pub mod Bits
pub mod Standing
pub mod Values
