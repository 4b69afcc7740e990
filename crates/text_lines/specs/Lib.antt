pub mod Keeping
pub mod Offsets
